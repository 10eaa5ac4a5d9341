pub mod Code
pub mod Store
pub mod Plain
pub mod Reductions
pub mod Session
pub mod Places
pub mod Fits
pub mod FitLaws
