pub mod Globals
pub mod Session
