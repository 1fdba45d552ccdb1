pub mod Bits
pub mod EndQueue
pub mod Occurrences
pub mod Rooms
pub mod Slots
pub mod Windows
pub mod Scanned
