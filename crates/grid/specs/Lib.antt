pub mod Bounds
pub mod Grid
pub mod Making
pub mod OnGrid
pub mod Part
