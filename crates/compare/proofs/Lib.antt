-- what closes a goal by tests
pub mod Tests
-- numbers, lists and bytes
pub mod Passes
pub mod PassedLines
pub mod Joining
pub mod Ids
pub mod Differing
-- what a report means, over the definitions alone
pub mod Meaning
pub mod Same
pub mod Exchanged
pub mod Reported
pub mod Reporting
-- how a dump is prepared
pub mod Ordering
pub mod OrderWords
pub mod Ranking
pub mod Copying
pub mod Running
pub mod Filling
pub mod Preparing
-- how a report is put
pub mod Heads
pub mod Stretching
pub mod Lining
pub mod Listing
pub mod Bounded
-- that prepared words give the report
pub mod Showing
pub mod Prepared
pub mod Walking
pub mod Told
pub mod Answered
-- computed
pub mod Examples
pub mod ShelfAnswers
