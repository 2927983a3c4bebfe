pub mod Answers
pub mod Value
pub mod Laws
