pub mod Bytes
pub mod Counts
pub mod Places
pub mod Scripts
