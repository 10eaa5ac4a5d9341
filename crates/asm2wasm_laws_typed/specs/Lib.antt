pub mod Labels
pub mod Contexts
pub mod Opened
pub mod Laws
