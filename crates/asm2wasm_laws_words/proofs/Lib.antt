pub mod Operated
pub mod Compared
pub mod Formed
pub mod Divided
