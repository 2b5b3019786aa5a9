pub mod Still
pub mod Steps
pub mod Once
pub mod Invariant
pub mod Core
pub mod Defined
pub mod Unsettled
pub mod Waits
pub mod Push
mod Examples
