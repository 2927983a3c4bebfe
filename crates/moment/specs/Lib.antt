pub mod Answers
pub mod Moment
pub mod Laws
