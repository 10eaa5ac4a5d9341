pub mod JsOperators
pub mod JsValues
pub mod Lists
pub mod Words
