pub mod Spelled
pub mod Fitting
pub mod Examples
