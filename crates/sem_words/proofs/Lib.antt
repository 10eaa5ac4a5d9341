mod WordExamples
mod JsExamples
pub mod Counts
pub mod Quotients
pub mod Rotations
pub mod WordLaws
