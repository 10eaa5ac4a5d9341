pub mod Contexts
pub mod Kinds
pub mod Fit
pub mod Lists
