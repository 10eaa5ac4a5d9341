pub mod Blocks
pub mod Bodies
pub mod Calls
pub mod Counts
pub mod Scopes
