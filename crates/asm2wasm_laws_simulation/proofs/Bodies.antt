-- Statements and bodies of functions.
pub mod Joined
pub mod Left
pub mod Tested
pub mod Turned
pub mod Asked
pub mod Executed
pub mod Scratched
pub mod Dispatched
pub mod Tabled
pub mod Blocks
pub mod Numbered
pub mod Long
pub mod Switched
pub mod Whole
pub mod Framed
pub mod First
