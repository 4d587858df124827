-- what closes answers that go by tests
pub mod Tests
-- lists of numbers, by their places
pub mod Positions
pub mod Fronts
-- what both lists mean, over the definitions alone
pub mod Passing
pub mod Pigeons
pub mod Standing
pub mod Ways
pub mod Paths
pub mod Both
pub mod Fitting
-- the newest headers, and the children in order
pub mod NewestEach
pub mod NewestHeads
pub mod HeadRows
pub mod Entries
pub mod Segments
-- the rows of the first list, and of the second
pub mod FirstList
pub mod Climbing
pub mod Settled
pub mod SecondList
pub mod Joined
-- the text, and what is answered
pub mod Texting
pub mod RowsText
pub mod Answering
pub mod Told
-- computed
pub mod Shelf
pub mod ShelfAnswers
pub mod Example
