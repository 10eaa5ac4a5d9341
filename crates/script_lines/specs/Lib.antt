pub mod GlobalLines
pub mod Examples
