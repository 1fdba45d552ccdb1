pub mod Listing
pub mod LoopRun
pub mod Cases
