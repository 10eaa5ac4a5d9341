pub mod Trees
pub mod Configurations
pub mod Outcomes
pub mod TypedPlaces
pub mod Laws
