pub mod Indexes
pub mod Enclosing
pub mod ways
