pub mod Convert
pub mod Back
