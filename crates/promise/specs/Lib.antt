pub mod Refusals
pub mod Causes
pub mod State
pub mod Steps
pub mod Runs
pub mod Calls
pub mod Promise
