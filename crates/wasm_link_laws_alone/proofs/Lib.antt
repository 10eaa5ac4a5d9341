pub mod TableStays
pub mod Fine
pub mod Steps
pub mod Sessions
