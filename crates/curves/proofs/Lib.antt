pub mod CurveLemmas
pub mod Words
