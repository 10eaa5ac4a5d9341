pub mod Shapes
pub mod Signs
pub mod Reversed
pub mod Codes
pub mod Parts
pub mod Made
pub mod Turns
