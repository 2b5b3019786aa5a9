pub mod Codes
pub mod Fed
pub mod Headline
pub mod Laws
pub mod Parts
pub mod Replies
pub mod Stores
pub mod Work
