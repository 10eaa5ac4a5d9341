pub mod Arrays
pub mod Leading
pub mod Lists
pub mod Reading
pub mod Standing
pub mod Past
