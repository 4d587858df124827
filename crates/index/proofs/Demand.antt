-- Demand 3: one request and a list of them, runs of additions, that no answer is IndexDamaged, the demand whole, and that its requests are the calls.
pub mod Requests
pub mod Runs
pub mod Undamaged
pub mod Whole
pub mod Calls
