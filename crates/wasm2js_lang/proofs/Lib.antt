mod Instantiated
pub mod Lengths
pub mod Masked
pub mod Padded
mod Traps
mod Refused
