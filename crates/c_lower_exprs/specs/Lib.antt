pub mod Seen
pub mod Slots
pub mod Contexts
pub mod Lowered
pub mod Fields
pub mod Operators
