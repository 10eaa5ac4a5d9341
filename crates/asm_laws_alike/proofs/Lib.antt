pub mod Values
pub mod Runs
pub mod Evaluating
pub mod Executing
pub mod Declared
pub mod Sessions
