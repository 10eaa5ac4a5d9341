pub mod Places
pub mod Digits
pub mod Words
pub mod Signs
pub mod Gaps
pub mod Fronts
pub mod GoingOn
