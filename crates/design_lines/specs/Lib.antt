pub mod Names
pub mod Stages
pub mod Drawn
pub mod LedStages
pub mod Led
pub mod Ways
