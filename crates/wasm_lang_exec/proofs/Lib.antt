pub mod Examples
pub mod FittingExamples
pub mod Written
