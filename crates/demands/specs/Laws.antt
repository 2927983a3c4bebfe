pub mod Places
pub mod SampleRows
