mod DepthLemmas
pub mod FlatMaps
mod GatherLemmas
mod GroupLemmas
pub mod RankLemmas
pub mod LinkPaths
pub mod ChainLinks
pub mod ChainPaths
pub mod NetLemmas
mod PartnerLemmas
mod PlaceLemmas
mod ItemSums
mod OpenWays
mod HeatSetOut
mod PassedShares
mod SpreadLemmas
mod StrideLemmas
pub mod Words
