pub mod Apart
pub mod Calls
pub mod Coverings
pub mod Laws
pub mod Sizes
