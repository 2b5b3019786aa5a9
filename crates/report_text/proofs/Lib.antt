pub mod Appending
pub mod Having
