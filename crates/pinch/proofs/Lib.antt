mod Causes
mod Runs
pub mod Words
