pub mod Following
pub mod Bounds
