pub mod Data
pub mod Element
pub mod Laws
