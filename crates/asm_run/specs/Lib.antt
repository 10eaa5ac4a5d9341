pub mod Exports
pub mod Globals
pub mod Linked
