pub mod FirstPassing
pub mod Knowing
pub mod Happening
