pub mod Inputs
pub mod Operators
pub mod Slices
pub mod Views
