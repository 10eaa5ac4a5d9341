pub mod NodeCounts
