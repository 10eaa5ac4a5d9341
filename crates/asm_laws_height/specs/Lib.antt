pub mod Peaks
pub mod Rises
pub mod Examples
