pub mod Edit
pub mod Handed
pub mod Laws
