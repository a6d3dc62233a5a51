pub mod Keyed
pub mod ListLemmas
pub mod Sources
pub mod Tests
pub mod Accepted
pub mod Printed
pub mod Words
