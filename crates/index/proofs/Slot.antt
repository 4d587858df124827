-- The table of objects: where its words stand, counting its used slots, and finding an object's.
pub mod Words
pub mod Counts
pub mod Search
