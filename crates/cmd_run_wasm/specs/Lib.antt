pub mod Modules
pub mod Runs
