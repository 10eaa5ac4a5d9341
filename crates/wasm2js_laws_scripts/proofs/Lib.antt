pub mod Calls
pub mod Fitting
pub mod Heaps
pub mod Names
mod Composed
