pub mod ReadBytes
pub mod Modules
pub mod Plays
