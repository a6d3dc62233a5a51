pub mod Lists
pub mod Counts
pub mod OfShape
pub mod LineLaws
pub mod Words
