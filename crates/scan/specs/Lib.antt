pub mod Answers
pub mod Scan
pub mod Laws
