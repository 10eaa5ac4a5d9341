pub mod Views
pub mod Atoms
pub mod Waits
pub mod Held
pub mod Facts
