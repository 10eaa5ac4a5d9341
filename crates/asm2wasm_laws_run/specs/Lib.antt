pub mod Sim
pub mod Straight
pub mod State
pub mod Laws
