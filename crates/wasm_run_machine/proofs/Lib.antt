pub mod Hosts
pub mod Asked
pub mod SameTypes
pub mod Called
pub mod Spending
pub mod Opened
pub mod Done
pub mod Plains
