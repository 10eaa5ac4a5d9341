pub mod Marks
pub mod Wanted
pub mod Between
