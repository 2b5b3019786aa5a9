pub mod World
pub mod Logs
pub mod Invariant
pub mod Claims
pub mod Waits
