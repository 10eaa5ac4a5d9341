pub mod Contexts
pub mod Found
pub mod Forms
pub mod Indexes
pub mod Signatures
