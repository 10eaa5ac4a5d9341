pub mod Readings
pub mod Ends
