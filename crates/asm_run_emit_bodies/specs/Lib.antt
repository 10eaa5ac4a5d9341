pub mod Targets
pub mod Jumps
pub mod Loops
pub mod Choices
pub mod Switches
pub mod Flats
