pub mod Grown
pub mod Holding
