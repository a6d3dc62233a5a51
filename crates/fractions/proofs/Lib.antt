pub mod Ratios
pub mod Sums
pub mod Products
pub mod Wholes
pub mod RationalSums
pub mod Comparisons
pub mod Limits
mod InLowestTerms
mod Euclid
mod OnValues
pub mod Words
