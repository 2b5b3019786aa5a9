pub mod NonEmpty
pub mod Params
pub mod Syntax
