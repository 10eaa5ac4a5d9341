pub mod Plain
pub mod Worlds
pub mod Linked
pub mod States
pub mod Flows
pub mod Runs
