pub mod Faults
pub mod Failing
pub mod Shelf
pub mod Sink
pub mod Memory
