pub mod Undumping
pub mod Places
pub mod Putting
pub mod Scanning
pub mod Reading
