pub mod Integers
pub mod Lowest
pub mod Rationals
pub mod LowestForms
pub mod Order
pub mod Fields
pub mod Inside
