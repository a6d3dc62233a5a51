pub mod TargetLemmas
pub mod PlaceLemmas
pub mod ReachLemmas
pub mod ProfileLemmas
pub mod Words
