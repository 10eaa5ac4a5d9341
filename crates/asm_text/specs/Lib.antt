pub mod Said
pub mod Faults
pub mod Places
