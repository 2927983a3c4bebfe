pub mod Convert
pub mod Laws
