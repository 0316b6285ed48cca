pub mod Bitwork
