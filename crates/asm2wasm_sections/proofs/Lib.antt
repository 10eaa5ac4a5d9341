pub mod Few
pub mod Small
