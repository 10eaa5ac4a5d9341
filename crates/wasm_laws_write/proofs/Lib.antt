pub mod Numbers
pub mod Parts
pub mod Written
pub mod Modules
pub mod Short
pub mod Spelled
