mod Examples
pub mod Places
pub mod Inside
pub mod Cases
pub mod Shapes
pub mod Forms
pub mod Turns
pub mod Mapped
pub mod Made
pub mod Whole
