pub mod Names
pub mod Callees
