pub mod Building
pub mod Lookups
pub mod ways
