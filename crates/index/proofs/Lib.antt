-- Laws by subject, from the table of objects up to demand 3; docs/ARCHITECTURE.md has the way.
pub mod Mapped
pub mod Slot
pub mod Sorted
pub mod Chain
pub mod Walk
pub mod Held
pub mod Answer
pub mod Demand
