pub mod Edges
pub mod Headings
pub mod Same
pub mod Outcomes
mod Causes
pub mod Told
pub mod Refusal
