pub mod Lengths
pub mod Powers
