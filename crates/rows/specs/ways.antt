pub mod Order
pub mod LoopCounts
pub mod OpenLoops
pub mod Finisher
pub mod Inner
pub mod Pairs
pub mod ContinuationKinds
