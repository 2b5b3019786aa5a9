pub mod Laws
pub mod Solves
