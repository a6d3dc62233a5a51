pub mod Study
pub mod Rows
pub mod Given
pub mod Entries
pub mod Checks
pub mod Outcome
