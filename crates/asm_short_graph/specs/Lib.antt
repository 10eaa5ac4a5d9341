pub mod Graphs
pub mod Numbered
pub mod Marks
pub mod Picked
