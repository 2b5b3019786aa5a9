pub mod Rows
pub mod Arguments
pub mod Levels
