pub mod Gathered
pub mod Handed
pub mod Leaving
pub mod Whole
