pub mod Courses
pub mod Balance
