pub mod Machine
pub mod Meaning
pub mod Carrying
pub mod Laws
