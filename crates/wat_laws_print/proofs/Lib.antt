pub mod Characters
pub mod Joined
pub mod Numerals
pub mod Names
pub mod Fits
pub mod ReadNumbers
