pub mod Tokens
pub mod Readings
pub mod Answers
pub mod ways
