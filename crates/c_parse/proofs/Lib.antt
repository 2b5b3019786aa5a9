pub mod Cases
pub mod Nested
pub mod Parts
pub mod Whole
