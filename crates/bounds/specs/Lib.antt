pub mod Listed
pub mod Calls
pub mod Laws
