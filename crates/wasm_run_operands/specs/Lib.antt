pub mod Stack
pub mod Tops
pub mod Effects
