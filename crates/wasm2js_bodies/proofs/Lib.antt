pub mod Steps
pub mod Blocks
pub mod Lists
pub mod Done
pub mod Plains
pub mod Whole
pub mod Endings
