pub mod Put
pub mod Calls
pub mod Noted
pub mod Profile
