pub mod Rows
pub mod KeptKinds
pub mod Reads
pub mod Views
pub mod ways
