mod Examples
pub mod CutLemmas
pub mod NumberLemmas
pub mod ItemLemmas
pub mod ReadingLemmas
pub mod Bytes
