pub mod Views
pub mod Heights
pub mod Rises
pub mod Tall
