pub mod Whole
pub mod Stands
pub mod LocalRuns
mod Examples
