pub mod Simulated
pub mod Straight
pub mod Guarded
pub mod Chained
