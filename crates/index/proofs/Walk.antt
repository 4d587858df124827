-- Walks down a chain, on any cells: what they come to, the records they visit, all chunks at once, and what a listing sees.
pub mod Walks
pub mod Visits
pub mod Standing
pub mod Recorded
pub mod Ahead
