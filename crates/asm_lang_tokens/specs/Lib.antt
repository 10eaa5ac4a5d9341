pub mod Bytes
pub mod Forms
pub mod Text
pub mod Examples
