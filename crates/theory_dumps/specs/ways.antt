pub mod Undump
pub mod Spelled
