pub mod Provided
pub mod Laws
