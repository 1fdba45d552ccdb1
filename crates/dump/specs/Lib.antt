pub mod Dumping
pub mod ways
