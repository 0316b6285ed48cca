pub mod Operations
pub mod Names
pub mod Refusals
pub mod Tables
pub mod Sheets
pub mod Tabled
