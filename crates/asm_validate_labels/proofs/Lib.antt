pub mod Opened
pub mod CaseValues
pub mod Spans
