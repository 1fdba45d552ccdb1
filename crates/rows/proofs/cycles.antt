pub mod PartScans
pub mod Picks
pub mod Steps
pub mod RowCounts
pub mod FirstPlaces
pub mod Tallying
pub mod MadeByKind
