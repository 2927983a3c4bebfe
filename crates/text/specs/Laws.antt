pub mod Answers
pub mod Length
pub mod Written
pub mod Seen
