pub mod Deficit
pub mod Sides
