pub mod Chained
pub mod Locals
