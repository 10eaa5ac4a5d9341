pub mod Fits
pub mod Lengths
pub mod Laws
pub mod Each
pub mod TreesLaws
