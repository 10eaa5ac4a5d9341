pub mod Callees
pub mod Members
pub mod Forms
pub mod Rows
pub mod Worked
