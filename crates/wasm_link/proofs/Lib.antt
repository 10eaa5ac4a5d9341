pub mod Constants
pub mod Parts
pub mod Indirect
pub mod Whole
pub mod Stands
