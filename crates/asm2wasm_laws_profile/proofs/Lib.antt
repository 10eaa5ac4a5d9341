pub mod Peak
pub mod Flat
pub mod LightValues
pub mod LightBodies
pub mod Foreign
pub mod Bodies
pub mod Whole
pub mod Examples
