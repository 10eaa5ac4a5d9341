pub mod Joined
mod Read
mod Counted
pub mod Checked
