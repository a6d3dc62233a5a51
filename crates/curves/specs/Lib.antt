pub mod Below
pub mod Curve
