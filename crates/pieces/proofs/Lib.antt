pub mod CarriedStates
pub mod Law
pub mod PieceStages
pub mod PieceShape
pub mod Words
