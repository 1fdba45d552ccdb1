pub mod CallSteps
pub mod ReplaySingly
pub mod ReplayedRows
pub mod PairRecords
pub mod PairSteps
pub mod Stretches
pub mod GoingOn
