pub mod Annotation
pub mod Examples
pub mod Laws
pub mod Listing
