pub mod Rows
pub mod Left
pub mod Numbers
pub mod Fields
pub mod ContributionRow
pub mod Outcome
pub mod Text
pub mod Printed
