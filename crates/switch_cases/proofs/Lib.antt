pub mod CaseValues
pub mod Tables
