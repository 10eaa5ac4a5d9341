-- The functions, tables and imports of a translated module.
pub mod Lists
pub mod Stand
pub mod Exporting
pub mod Stubs
pub mod Powers
pub mod Tabling
pub mod Importing
pub mod Whole
