pub mod Zeros
pub mod Carried
pub mod Left
