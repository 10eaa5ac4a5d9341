pub mod Answering
pub mod ByParts
pub mod LentModules
pub mod PlacesExamples
pub mod SectionHeads
