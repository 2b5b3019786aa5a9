pub mod Flagged
pub mod Placed
