pub mod Names
pub mod Typing
pub mod Checking
pub mod Rows
