pub mod Numerals
pub mod Dumps
pub mod ways
