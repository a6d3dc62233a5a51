pub mod Views
pub mod Steps
pub mod Worths
pub mod Uses
pub mod Floor
