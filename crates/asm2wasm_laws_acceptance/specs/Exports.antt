-- Modules with one function as their one export.
pub mod Laws
