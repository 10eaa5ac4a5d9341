pub mod Sequence
pub mod Uses
pub mod Reached
pub mod Renaming
pub mod Short
