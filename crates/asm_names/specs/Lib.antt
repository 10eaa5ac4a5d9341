pub mod Meanings
pub mod Members
pub mod Environments
pub mod Scopes
pub mod Hashed
