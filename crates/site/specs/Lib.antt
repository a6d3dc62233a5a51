pub mod Table
pub mod Reach
pub mod Profiles
pub mod Directions
pub mod SiteTable
pub mod Target
