pub mod Lines
pub mod Names
pub mod Numbers
pub mod Items
pub mod Reading
pub mod Texts
