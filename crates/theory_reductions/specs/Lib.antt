pub mod Below
pub mod Inputs
pub mod Left
pub mod ways
