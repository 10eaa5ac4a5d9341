pub mod Pieces
pub mod Choices
