pub mod IndexLists
pub mod Scanned
pub mod RowsOfBlocks
pub mod Innermost
pub mod ProgramRows
pub mod StartOrder
pub mod Examples
