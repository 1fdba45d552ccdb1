pub mod records
pub mod cycles
pub mod replay
pub mod passes
pub mod ways
