pub mod Numbers
pub mod Names
pub mod Verbs
pub mod Words
pub mod Unread
pub mod Stretches
pub mod Commands
pub mod Read
