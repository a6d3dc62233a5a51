pub mod Pieces
pub mod Led
