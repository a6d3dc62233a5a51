pub mod DeficitLemmas
pub mod EndLemmas
pub mod SideLemmas
pub mod Words
