pub mod Gathered
pub mod Numbers
pub mod Places
pub mod Graph
pub mod Staying
