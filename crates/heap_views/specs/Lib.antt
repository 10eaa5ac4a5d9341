pub mod Writes
pub mod Region
pub mod Block
