pub mod Tables
pub mod Parts
pub mod Variables
pub mod Begun
