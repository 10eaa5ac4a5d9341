pub mod Pushes
pub mod Classes
