pub mod Few
pub mod Parts
