pub mod Words
pub mod Lines
pub mod Spelling
pub mod Rows
pub mod Accepted
