pub mod Order
pub mod Rest
pub mod Switches
pub mod Bodies
pub mod Phases
