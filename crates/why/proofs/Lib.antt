pub mod Tests
-- places and marks
pub mod Latest
pub mod Places
pub mod Marking
pub mod Putting
pub mod Setting
-- words, one store at a time
pub mod InPlace
pub mod Finding
-- what a reason means, over the definitions alone
pub mod Meaning
pub mod Until
pub mod Found
pub mod Filing
pub mod Lending
pub mod Shown
-- that the sweep over the marks makes the spans
pub mod Sighted
pub mod Still
pub mod Sweeping
pub mod Filling
-- computed
pub mod Shelf
pub mod ShelfAnswers
