pub mod Words
pub mod Spelt
pub mod Lists
