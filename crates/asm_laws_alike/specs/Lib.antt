pub mod Places
pub mod Code
pub mod Alike
