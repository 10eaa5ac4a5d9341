pub mod Cuts
pub mod Views
pub mod Lined
pub mod Collecting
