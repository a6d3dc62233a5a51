pub mod Positions
pub mod LineCuts
pub mod PlainStatements
pub mod NextLine
pub mod PlainNumbers
pub mod Words
