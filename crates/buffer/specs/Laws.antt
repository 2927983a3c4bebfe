pub mod Laid
pub mod Holds
