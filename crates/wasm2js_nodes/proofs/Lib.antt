pub mod Numerals
pub mod Lists
