pub mod CourseLemmas
pub mod LineLemmas
pub mod ValuationLemmas
pub mod HeightLemmas
pub mod ShareLemmas
pub mod WholeLemmas
pub mod PassLemmas
pub mod WholeHeights
pub mod PenaltyLemmas
pub mod StreamStates
pub mod LoadLemmas
pub mod ScaleLemmas
pub mod SignLemmas
mod OnNetwork
pub mod WeightLemmas
pub mod Words
