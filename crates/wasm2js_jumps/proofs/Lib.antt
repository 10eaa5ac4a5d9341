pub mod Lists
pub mod IndexLemmas
pub mod CallLemmas
