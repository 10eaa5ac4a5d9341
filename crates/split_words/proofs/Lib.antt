pub mod Gained
pub mod AtOnce
