pub mod Passes
pub mod Places
pub mod Declarations
pub mod Called
