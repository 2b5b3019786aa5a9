pub mod Coming
pub mod Examined
pub mod Keeping
pub mod ListingLaws
pub mod Narrow
pub mod Queueing
