pub mod Puts
pub mod Lists
