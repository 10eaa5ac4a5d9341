pub mod Straight
pub mod Places
pub mod Helped
pub mod Worked
pub mod Following
pub mod PaceLaws
pub mod Delaying
pub mod Knowing
