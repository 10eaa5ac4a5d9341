pub mod Pushes
pub mod Classes
pub mod BegunMarks
pub mod Entries
