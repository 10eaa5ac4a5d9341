pub mod Steps
pub mod Lists
pub mod Signs
pub mod Indices
