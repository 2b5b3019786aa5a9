pub mod Clauses
pub mod Faults
pub mod Heads
