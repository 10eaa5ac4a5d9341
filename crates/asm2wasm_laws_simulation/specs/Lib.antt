pub mod Bodies
pub mod Functions
pub mod Sessions
