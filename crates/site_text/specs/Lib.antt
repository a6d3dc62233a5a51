pub mod Site
pub mod Given
pub mod Checks
pub mod Outcome
pub mod Additions
pub mod Printed
