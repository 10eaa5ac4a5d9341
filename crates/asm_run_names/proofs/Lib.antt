pub mod Declarations
pub mod Found
pub mod Called
