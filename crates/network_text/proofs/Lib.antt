pub mod NameTests
pub mod Missing
pub mod Shaped
pub mod Reading
pub mod Tables
pub mod Printed
pub mod ReadBack
pub mod Words
