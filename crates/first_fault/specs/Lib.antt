pub mod Checks
pub mod Outcome
