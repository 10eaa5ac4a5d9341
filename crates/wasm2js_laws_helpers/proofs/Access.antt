-- The helpers that read the memory.
pub mod Loaded
pub mod Bytes
