-- Modules with one function as their one export.
pub mod Typed
pub mod Names
pub mod Rows
pub mod Marks
pub mod Parts
pub mod Distinct
pub mod Accepted
pub mod Coded
pub mod Translated
