pub mod Axis
pub mod Limits
pub mod Matches
pub mod Courses
pub mod Vertical
pub mod Balance
