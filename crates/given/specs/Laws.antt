pub mod Given
pub mod Element
