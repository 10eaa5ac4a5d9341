pub mod Effects
pub mod Forms
pub mod Operands
pub mod Scopes
