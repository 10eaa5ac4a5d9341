pub mod Pairs
pub mod Reductions
pub mod Session
pub mod Fits
pub mod Rows
pub mod Refusal
pub mod Calling
pub mod Allowed
