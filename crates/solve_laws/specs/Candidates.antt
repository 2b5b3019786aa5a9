pub mod Candidates
pub mod Coming
pub mod Conditions
pub mod Examples
pub mod Laws
pub mod Searching
