pub mod Distinct
pub mod Free
pub mod Given
pub mod Ordered
