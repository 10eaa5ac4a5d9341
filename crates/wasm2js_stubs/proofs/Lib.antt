pub mod Noted
pub mod Words
pub mod Profile
