pub mod GivenValues
pub mod Lasts
pub mod Words
pub mod Hosting
pub mod Numbers
pub mod Whole
