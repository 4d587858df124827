-- records, cuts, and one page more
pub mod Tests
pub mod Alike
pub mod Records
pub mod Cuts
pub mod Gathering
-- what lookups answer, case by case
pub mod Cases
pub mod Looking
pub mod Undamaged
pub mod Reading
-- buffers
pub mod Laying
-- computed
pub mod Marked
-- what the rules mean, over the definitions alone
pub mod Meaning
pub mod Holes
-- the live list
pub mod Living
pub mod Sorting
