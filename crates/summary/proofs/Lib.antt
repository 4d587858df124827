pub mod Tests
pub mod Length
pub mod Shelf
