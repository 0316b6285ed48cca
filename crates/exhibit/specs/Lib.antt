pub mod Lent
pub mod Panels
