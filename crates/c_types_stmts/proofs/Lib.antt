pub mod Adding
pub mod Leaving
pub mod Loops
pub mod Declared
