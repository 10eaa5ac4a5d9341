pub mod Graph
pub mod Marked
