pub mod Hashes
pub mod Stored
