pub mod Marks
pub mod Names
pub mod Uses
pub mod Within
pub mod Signatures
