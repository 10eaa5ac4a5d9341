pub mod Classes
pub mod Fed
pub mod Frames
pub mod Items
pub mod Purposes
pub mod Reach
pub mod Views
