pub mod Views
pub mod Steps
pub mod Rising
pub mod Ending
