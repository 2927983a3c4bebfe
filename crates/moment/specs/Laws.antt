pub mod Moment
pub mod One
