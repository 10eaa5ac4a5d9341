pub mod Light
pub mod Laws
