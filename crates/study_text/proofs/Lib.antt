pub mod LastScenario
pub mod Accepted
