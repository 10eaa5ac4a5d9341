pub mod Exported
pub mod Fitting
pub mod Named
