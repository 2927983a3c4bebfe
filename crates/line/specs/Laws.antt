pub mod Line
pub mod Adds
pub mod Example
