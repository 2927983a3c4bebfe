pub mod Chain
pub mod Row
