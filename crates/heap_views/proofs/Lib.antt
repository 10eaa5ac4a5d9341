pub mod WriteLemmas
pub mod RegionSharing
pub mod RegionMemory
pub mod BlockLemmas
