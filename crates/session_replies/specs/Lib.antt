pub mod Answers
pub mod Puts
pub mod Views
