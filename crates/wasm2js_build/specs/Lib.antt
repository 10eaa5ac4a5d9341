pub mod Blocks
pub mod OwnForms
pub mod Steps
pub mod Growing
