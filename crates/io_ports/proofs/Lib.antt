mod Found
pub mod ToldBytes
