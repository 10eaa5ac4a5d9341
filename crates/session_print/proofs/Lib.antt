mod Examples
pub mod Parts
pub mod Steps
pub mod Zeros
