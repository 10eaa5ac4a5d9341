pub mod Open
pub mod Arounds
pub mod Cases
