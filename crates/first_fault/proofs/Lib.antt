pub mod CheckLemmas
pub mod Steps
pub mod Reading
pub mod OneOutcome
