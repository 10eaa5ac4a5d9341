pub mod Numbered
pub mod Parameters
pub mod Put
pub mod Variables
