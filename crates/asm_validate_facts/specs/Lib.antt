pub mod Numbers
pub mod FactsOf
pub mod Names
