mod Dropped
mod Fields
mod Modules
mod Rows
pub mod Groups
pub mod FieldByField
pub mod Heads
pub mod Headed
