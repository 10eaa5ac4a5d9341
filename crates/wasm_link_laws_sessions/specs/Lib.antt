pub mod Each
pub mod Alike
pub mod Globals
pub mod Follows
pub mod Laws
