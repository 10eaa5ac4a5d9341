pub mod Files
pub mod Gaining
pub mod Jobs
pub mod Pieces
pub mod RoundTrips
pub mod Small
pub mod Summaries
pub mod Translated
mod Back
