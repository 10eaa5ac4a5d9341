pub mod Places
pub mod Accesses
pub mod Writes
