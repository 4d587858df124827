-- what closes a definition that goes by tests
pub mod Tests
-- records by their ages, and the rows of chunks
pub mod Writing
pub mod Placing
pub mod Last
pub mod Rowing
-- the lowest cuts, and how a newest copy stands
pub mod Lowering
pub mod Hiding
pub mod InSight
pub mod Inside
-- what it means, over the definitions alone
pub mod Meaning
-- a file record by record
mod Growing
mod Following
-- what is answered, and that it is so
pub mod Accepted
pub mod Answering
mod Histories
pub mod Recounting
pub mod Told
-- computed
pub mod ShelfHistory
pub mod ShelfStandings
pub mod ShelfAnswers
pub mod Example
