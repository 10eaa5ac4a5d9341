pub mod Driving
pub mod Instructions
pub mod Sequences
pub mod Events
pub mod Counting
pub mod Sessions
pub mod Closing
pub mod Stepping
