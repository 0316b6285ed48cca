pub mod Numbers
pub mod Answers
pub mod Lines
pub mod Unread
