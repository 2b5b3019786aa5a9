pub mod Files
pub mod Kept
pub mod Puts
pub mod Reads
pub mod Parts
pub mod Laws
