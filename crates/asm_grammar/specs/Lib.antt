pub mod Ends
pub mod Parsed
pub mod Gives
