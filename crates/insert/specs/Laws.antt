pub mod Copy
pub mod Insert
