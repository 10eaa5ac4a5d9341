pub mod Views
pub mod Sizes
pub mod Waiting
pub mod Two
pub mod Parts
pub mod Knowing
