pub mod Counting
pub mod Settling
pub mod Meeting
pub mod Composing
