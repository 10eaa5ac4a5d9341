mod Sessions
pub mod Joined
pub mod Spelling
