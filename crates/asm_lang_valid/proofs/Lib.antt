pub mod Examples
pub mod Agree
pub mod Places
