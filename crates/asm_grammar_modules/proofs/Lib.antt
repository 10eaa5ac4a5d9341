pub mod Idle
pub mod Totals
pub mod Begins
