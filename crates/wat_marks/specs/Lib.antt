pub mod Strings
pub mod Views
pub mod Readings
