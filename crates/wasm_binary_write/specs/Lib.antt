pub mod Opcodes
pub mod Parts
pub mod Runs
pub mod Spelling
pub mod Views
