pub mod Forms
pub mod Runs
pub mod Instances
pub mod Globals
pub mod GlobalViews
pub mod Exports
