-- The fields and the lines of a printed network.
pub mod Fields
pub mod Lengths
