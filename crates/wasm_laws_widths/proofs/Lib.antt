pub mod Known
pub mod Pass
pub mod Deep
mod Lesser
mod Named
pub mod Levels
pub mod Slots
