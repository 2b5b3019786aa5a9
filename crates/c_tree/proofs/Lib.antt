pub mod Branches
pub mod Trees
