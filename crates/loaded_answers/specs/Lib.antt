pub mod Lookup
pub mod SameKeys
