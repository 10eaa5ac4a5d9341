pub mod Parts
pub mod Laws
pub mod OpcodesLaws
pub mod CountsExamples
