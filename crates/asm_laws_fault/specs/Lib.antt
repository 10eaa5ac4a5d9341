pub mod Outcomes
pub mod TextOutcomes
