pub mod Lines
pub mod Shape
