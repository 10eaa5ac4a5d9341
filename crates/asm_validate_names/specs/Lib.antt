pub mod Found
pub mod Refusals
pub mod Seen
pub mod Members
pub mod Imported
pub mod Heading
