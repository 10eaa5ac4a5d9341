pub mod NumberLemmas
pub mod RunLemmas
pub mod HeapLemmas
pub mod Examples
