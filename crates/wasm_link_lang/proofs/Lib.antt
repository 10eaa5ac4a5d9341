pub mod Examples
pub mod RefusalExamples
