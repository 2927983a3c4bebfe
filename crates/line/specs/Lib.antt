pub mod Line
pub mod Adds
