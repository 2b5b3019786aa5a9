pub mod Classes
pub mod Derived
pub mod Taken
pub mod Complete
pub mod Halted
pub mod Opened
pub mod Avoided
