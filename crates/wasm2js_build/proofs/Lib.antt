pub mod Lists
pub mod Literals
pub mod OwnForms
pub mod Replacing
pub mod Growing
pub mod Holding
pub mod Waiting
pub mod Bounds
