pub mod Order
pub mod Putting
pub mod Digits
pub mod Lines
pub mod Writing
pub mod Examples
