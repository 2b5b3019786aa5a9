pub mod Accesses
pub mod Addresses
pub mod Scans
pub mod Stacks
