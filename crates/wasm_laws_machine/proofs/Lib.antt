pub mod Tops
pub mod Plainly
pub mod Blocks
pub mod Branching
pub mod Entering
