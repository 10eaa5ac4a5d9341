pub mod Weights
pub mod Fits
pub mod Sizes
pub mod SaidModules
