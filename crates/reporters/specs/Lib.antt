pub mod Known
pub mod Feeding
pub mod Scripts
pub mod Shared
