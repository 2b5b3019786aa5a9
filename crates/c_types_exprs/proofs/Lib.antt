mod Appending
mod Arguments
pub mod ListedKinds
