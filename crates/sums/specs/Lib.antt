pub mod Order
pub mod Pairing
pub mod Spans
pub mod Sum
