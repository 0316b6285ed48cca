pub mod Meaning
pub mod Devices
pub mod Exchanges
pub mod Registers
pub mod Lists
pub mod Runs
pub mod Laws
