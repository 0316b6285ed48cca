pub mod CellBits
mod PackedFacts
pub mod CellFacts
pub mod PlaceFacts
mod Zeroed
