pub mod Slots
pub mod Writes
pub mod Led
pub mod Operations
pub mod Arguments
pub mod Callers
pub mod Hosted
