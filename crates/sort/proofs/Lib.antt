-- lists and their members
pub mod Behind
pub mod Arranging
pub mod Ascending
pub mod Places
pub mod Making
pub mod Times
pub mod Lists
-- sorting, searching, rows of two words, and clearing
pub mod Splitting
pub mod Packing
pub mod Clearing
-- slices copied
pub mod Copying
