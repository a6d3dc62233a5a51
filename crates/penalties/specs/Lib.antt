pub mod Steps
pub mod Rows
pub mod Answers
pub mod Survey
pub mod Tables
