pub mod Double
pub mod Date
