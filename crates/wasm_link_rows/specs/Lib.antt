pub mod Stages
pub mod Faults
