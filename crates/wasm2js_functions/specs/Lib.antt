pub mod Facts
pub mod Forms
pub mod Listing
pub mod Sending
