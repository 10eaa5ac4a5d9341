pub mod Refusals
pub mod Signatures
