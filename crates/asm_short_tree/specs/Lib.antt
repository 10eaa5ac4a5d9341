pub mod Looking
pub mod Bodies
