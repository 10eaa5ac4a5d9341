pub mod Jumps
pub mod Laws
pub mod Places
pub mod Reading
pub mod PastLaws
