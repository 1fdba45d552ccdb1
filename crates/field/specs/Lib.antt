pub mod Modulus
pub mod Cells
pub mod Bounds
pub mod Inverse
pub mod Table
pub mod Column
pub mod ways
