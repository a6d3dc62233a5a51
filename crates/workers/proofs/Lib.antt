pub mod ShareLemmas
pub mod Words
