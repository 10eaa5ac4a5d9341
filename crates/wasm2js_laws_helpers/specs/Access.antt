-- The helpers that read the memory.
pub mod Answers
pub mod Laws
