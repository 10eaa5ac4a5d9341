pub mod Longest
pub mod Table
pub mod Classes
pub mod Readings
