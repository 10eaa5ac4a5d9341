pub mod Laws
pub mod UsesLaws
pub mod NarrowLaws
