pub mod Joins
pub mod ByToken
pub mod Alignments
pub mod Fronts
pub mod Seens
pub mod TextTests
pub mod OfModule
