pub mod Tables
pub mod LaneRuns
pub mod Pairs
pub mod PieceSteps
pub mod Fronts
pub mod GoingOn
pub mod Scalars
pub mod Digits
