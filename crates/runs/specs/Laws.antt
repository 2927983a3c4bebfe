pub mod Both
pub mod Run
pub mod Left
pub mod Sample
