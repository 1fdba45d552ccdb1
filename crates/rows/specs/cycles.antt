pub mod Made
pub mod Scans
pub mod Cycles
pub mod LentTally
