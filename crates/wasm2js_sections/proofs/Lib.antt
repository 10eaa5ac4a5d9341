pub mod Imports
pub mod ByName
pub mod Runs
pub mod Lists
pub mod Chunks
