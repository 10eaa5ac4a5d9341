pub mod Machine
pub mod Judging
