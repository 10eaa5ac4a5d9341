pub mod Exports
pub mod Chains
pub mod Bindings
pub mod Types
pub mod Marks
pub mod Sizes
pub mod Numbering
