-- Whole sessions.
pub mod Called
pub mod Begun
pub mod Anywhere
pub mod Named
pub mod Matched
pub mod Whole
