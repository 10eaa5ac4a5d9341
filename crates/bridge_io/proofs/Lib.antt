pub mod Appends
pub mod Pieces
pub mod FilesOf
mod Examples
