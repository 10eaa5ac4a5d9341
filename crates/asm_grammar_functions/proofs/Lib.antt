pub mod Idle
pub mod Totals
