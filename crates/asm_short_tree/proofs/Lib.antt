pub mod Counts
pub mod Copied
pub mod Given
pub mod Around
pub mod Blocks
pub mod Bare
