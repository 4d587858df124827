-- Held cells answer what the rules answer: walks, then lookups and listings.
pub mod Walked
pub mod Lookups
pub mod Listings
pub mod Recorded
