pub mod Case
pub mod Digits
pub mod Limits
pub mod Name
pub mod Shift
pub mod Source
pub mod Stream
pub mod Utility
