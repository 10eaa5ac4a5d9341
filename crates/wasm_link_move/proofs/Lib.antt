pub mod Pushed
pub mod Turns
