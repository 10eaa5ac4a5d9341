pub mod Reach
pub mod Frames
pub mod Views
pub mod Infix
