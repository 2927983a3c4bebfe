pub mod Kinds
pub mod One
