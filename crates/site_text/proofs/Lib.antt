pub mod Plants
pub mod Tests
pub mod Accepted
pub mod PrintedRows
pub mod PrintedSite
pub mod SiteLemmas
pub mod PrintedText
pub mod Words
