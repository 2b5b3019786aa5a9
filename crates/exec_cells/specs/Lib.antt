pub mod Accesses
pub mod InSetting
pub mod Sizes
pub mod Turns
