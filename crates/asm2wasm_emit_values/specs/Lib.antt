pub mod Contexts
pub mod Indices
