pub mod Kept
pub mod Heads
pub mod FieldByField
pub mod Groups
