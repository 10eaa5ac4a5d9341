pub mod Read
pub mod Texts
pub mod Sessions
