pub mod Lists
pub mod Admitting
mod Loading
mod Filling
