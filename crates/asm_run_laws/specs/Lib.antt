pub mod Places
pub mod Frames
pub mod Bodies
pub mod Hosts
pub mod Laws
