pub mod OpcodeForms
