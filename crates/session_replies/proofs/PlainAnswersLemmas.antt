pub mod Called
pub mod ComponentsByName
pub mod Storing
pub mod Tabled
