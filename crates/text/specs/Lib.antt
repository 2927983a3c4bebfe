pub mod Length
pub mod Text
pub mod Laws
