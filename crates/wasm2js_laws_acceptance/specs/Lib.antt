pub mod ProvidedLaws
pub mod FunctionsFunctions
pub mod FunctionsLaws
pub mod LimitsLaws
pub mod NamesLaws
pub mod AcceptedLaws
pub mod CalledLaws
pub mod PartsLaws
