pub mod Range
pub mod Floats
