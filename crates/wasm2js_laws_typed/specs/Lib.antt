pub mod Laws
pub mod Constructs
pub mod Bodies
pub mod Waiting
