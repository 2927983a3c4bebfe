pub mod Deck
pub mod Sample
pub mod Written
pub mod Laws
