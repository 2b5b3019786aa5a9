pub mod Composing
pub mod Storing
