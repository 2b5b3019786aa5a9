pub mod Entries
pub mod Composed
pub mod Turns
pub mod Ended
pub mod Hands
