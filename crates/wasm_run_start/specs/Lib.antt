pub mod Listing
pub mod Fitting
