pub mod Counted
pub mod Spelled
pub mod Forms
pub mod Turns
pub mod Short
pub mod Bodies
