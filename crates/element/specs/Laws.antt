pub mod Data
pub mod Element
