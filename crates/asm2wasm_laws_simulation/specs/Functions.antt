-- Calls of a module's own functions, and what a unit is worth.
pub mod Laws
