pub mod Basics
pub mod Apart
pub mod Ordered
pub mod Reach
pub mod Whole
mod Examples
