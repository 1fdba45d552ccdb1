pub mod ReplayedRuns
pub mod Loops
pub mod ReadBack
