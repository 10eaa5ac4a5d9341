pub mod Flags
pub mod Joining
pub mod Known
pub mod Rooms
pub mod Stacks
pub mod Steps
pub mod Walking
