pub mod FineExprs
pub mod FineTerms
pub mod FineActions
