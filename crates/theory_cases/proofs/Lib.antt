pub mod LoopCells
pub mod Cases
pub mod LoopDump
pub mod Limits
