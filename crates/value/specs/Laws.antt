pub mod Held
pub mod Places
pub mod Dates
