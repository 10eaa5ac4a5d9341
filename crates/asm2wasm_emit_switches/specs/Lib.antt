pub mod Labels
pub mod Cases
pub mod Reach
