pub mod Parts
pub mod Same
pub mod Said
pub mod Judged
pub mod JudgedTexts
pub mod OpenFunctions
pub mod OpenFields
