pub mod Aims
pub mod Clauses
pub mod Jumps
pub mod Arguments
