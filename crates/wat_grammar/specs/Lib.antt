pub mod Sequences
pub mod Views
pub mod Tables
pub mod Keywords
pub mod Same
