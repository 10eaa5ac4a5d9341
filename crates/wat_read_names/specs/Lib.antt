pub mod Fields
pub mod Named
pub mod Bound
pub mod Counted
