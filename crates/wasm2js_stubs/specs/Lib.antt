pub mod Few
pub mod Needs
pub mod Members
