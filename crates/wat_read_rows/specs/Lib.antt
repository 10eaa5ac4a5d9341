pub mod Single
pub mod Heads
pub mod Ordered
