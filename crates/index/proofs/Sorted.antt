-- The records of an object in order, newest first, and the rules along that list.
pub mod Order
pub mod Records
pub mod Steps
pub mod Parting
pub mod Rules
