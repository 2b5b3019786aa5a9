pub mod Containing
pub mod Continued
pub mod Examples
pub mod Frame
pub mod Refuted
pub mod Returns
pub mod Steps
pub mod Symbolic
