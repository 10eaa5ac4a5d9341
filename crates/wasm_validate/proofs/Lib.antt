pub mod CodeItems
pub mod Counting
pub mod Sections
pub mod FunctionTypes
pub mod ImportNames
pub mod Names
pub mod Places
