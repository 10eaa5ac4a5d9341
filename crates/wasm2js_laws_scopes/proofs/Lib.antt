pub mod Among
pub mod Declared
pub mod HeadNames
