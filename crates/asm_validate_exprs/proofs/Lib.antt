pub mod Sequences
pub mod Lengths
pub mod Operators
pub mod Steps
