pub mod Arguments
pub mod Causes
pub mod Run
