pub mod Examples
pub mod Grown
pub mod Growth
pub mod Written
