pub mod Memories
pub mod Words
pub mod Added
