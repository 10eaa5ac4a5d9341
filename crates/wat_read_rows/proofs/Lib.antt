pub mod FieldByField
pub mod Fronts
pub mod Params
pub mod Same
pub mod TokenByToken
pub mod Types
