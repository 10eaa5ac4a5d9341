pub mod Kinds
pub mod Lent
pub mod Openings
pub mod Places
pub mod Sized
pub mod Views
