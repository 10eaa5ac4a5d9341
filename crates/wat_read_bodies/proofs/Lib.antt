pub mod Atoms
pub mod Good
pub mod Runs
pub mod Written
