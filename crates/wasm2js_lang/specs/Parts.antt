-- Which functions, tables and imports a module of asm.js has that stands for one of WebAssembly.
pub mod Functions
pub mod Tables
pub mod Imports
