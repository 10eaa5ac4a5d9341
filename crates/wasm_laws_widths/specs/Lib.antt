pub mod Depth
pub mod Laws
