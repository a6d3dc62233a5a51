-- A network is what the grammar gives for its text.
pub mod Exchangers
pub mod Law
pub mod Steps
