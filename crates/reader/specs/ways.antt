pub mod FromRow
pub mod Parts
pub mod Levels
pub mod WholeWord
pub mod TellsKinds
