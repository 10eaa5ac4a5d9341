-- Whole sessions: that they match, and what may be written for a module.
pub mod Reached
pub mod Laws
