pub mod Calls
pub mod Signatures
pub mod Declarations
pub mod Places
pub mod Named
pub mod Typed
pub mod Numbered
pub mod Functions
