pub mod Views
pub mod Flows
