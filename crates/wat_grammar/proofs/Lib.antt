pub mod Keys
pub mod Digits
pub mod Rows
pub mod Same
pub mod Tops
