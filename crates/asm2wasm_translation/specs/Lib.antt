pub mod Numbers
pub mod Values
pub mod Bodies
pub mod Modules
pub mod Pieces
pub mod Worked
