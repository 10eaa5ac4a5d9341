pub mod Bodies
pub mod Calls
pub mod Forms
pub mod Levels
pub mod Over
pub mod Standing
pub mod Views
