pub mod Run
pub mod Left
pub mod Laws
