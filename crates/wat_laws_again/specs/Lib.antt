pub mod Signs
pub mod Fitting
