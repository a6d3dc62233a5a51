-- What the grammar gives has the shape: what the checks of fields and of statements say where they hold, and that one entry more keeps the shape.
pub mod Branches
pub mod Kept
pub mod Entries
pub mod Law
