pub mod ChainLemmas
pub mod Erasing
pub mod StmtErasing
