-- Calls of a module's own functions, and what a unit is worth.
pub mod Passed
pub mod Asked
pub mod Entered
pub mod Kept
pub mod Whole
pub mod Paid
