pub mod State
pub mod Sectors
