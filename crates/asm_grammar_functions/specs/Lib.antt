pub mod Bodies
pub mod Totals
