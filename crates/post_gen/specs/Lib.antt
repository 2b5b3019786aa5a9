pub mod Conditions
pub mod InListing
