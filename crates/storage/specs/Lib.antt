pub mod Meaning
pub mod Packed
pub mod Cells
