pub mod Told
pub mod Spanned
pub mod Codes
pub mod Reasons
pub mod Marks
pub mod Sweeps
pub mod Answers
