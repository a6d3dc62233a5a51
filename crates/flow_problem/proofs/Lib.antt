pub mod SumLemmas
pub mod Words
