pub mod Refused
pub mod Runners
pub mod Slices
