pub mod Marks
pub mod Places
pub mod Fields
