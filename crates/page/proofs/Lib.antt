-- for the proofs of functions
-- choices and searches, layouts, lengths, pages and their kinds
pub mod Searching
pub mod Layouts
pub mod Lengths
pub mod Pages
pub mod Sound
pub mod Texts
pub mod Naming
-- what the counts add up to
pub mod Counting
-- the finding of the layout, and what it reads
pub mod Blocks
pub mod Leading
pub mod Leaving
pub mod Finding
pub mod Reading
-- what the crates above cite of a record and of a header
pub mod Within
pub mod Headers
-- computed
pub mod Marked
pub mod Needed
pub mod Passing
