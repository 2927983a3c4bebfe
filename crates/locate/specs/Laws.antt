pub mod Located
pub mod Spots
