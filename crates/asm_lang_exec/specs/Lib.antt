pub mod Runs
pub mod Values
pub mod Meaning
pub mod Session
pub mod Fits
pub mod FitLaws
pub mod Laws
