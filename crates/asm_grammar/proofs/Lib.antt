pub mod Laws
pub mod Low
pub mod Pairs
pub mod Fed
pub mod All
