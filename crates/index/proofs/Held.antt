-- What the cells hold: each call case by case, each store, an addition, the slices a call is lent, and the calls on a dump.
pub mod Cases
pub mod Stores
pub mod Additions
pub mod Slices
pub mod Calls
