pub mod Compared
pub mod Preparing
-- the report of document 02
pub mod Views
pub mod Fields
pub mod Differences
pub mod Report
pub mod Answers
-- what a dump is prepared to, and the report by such words
pub mod Prepared
pub mod Sides
pub mod Lists
-- for the code alone
pub mod Lines
pub mod Bounds
pub mod Parts
pub mod Heads
pub mod Ranks
pub mod Rows
