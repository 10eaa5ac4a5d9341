pub mod Declarations
pub mod Counted
pub mod Types
pub mod Bases
pub mod Linked
