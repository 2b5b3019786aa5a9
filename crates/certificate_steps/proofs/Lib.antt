pub mod SizeLaws
pub mod Starts
pub mod Turns
