pub mod Answers
pub mod View
pub mod Laws
