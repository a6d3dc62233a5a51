pub mod Corner
pub mod Value
