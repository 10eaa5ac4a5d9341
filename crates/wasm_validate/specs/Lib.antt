pub mod Bodies
pub mod Scopes
pub mod Facts
pub mod Sections
pub mod Refusals
pub mod Mixed
pub mod Counted
-- the profile of translation, and what a valid module is outside it by
pub use Rattle.wasm_lang_valid.specs.Profile.{IsInProfile, outside_profile}
