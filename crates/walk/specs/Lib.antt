pub mod Elements
pub mod Laws
