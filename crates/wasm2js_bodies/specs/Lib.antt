pub mod Kinds
pub mod Walks
pub mod Steps
