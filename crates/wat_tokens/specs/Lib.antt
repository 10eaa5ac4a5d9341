pub mod Fronts
pub mod Closed
pub mod Views
pub mod Left
pub mod Natural
pub mod Numbers
pub mod Runs
