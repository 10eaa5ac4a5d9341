pub mod Joined
pub mod Parts
pub mod Endings
mod Backs
