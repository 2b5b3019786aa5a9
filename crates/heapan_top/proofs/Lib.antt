pub mod Appending
pub mod Completing
pub mod CourseLaws
pub mod Honest
pub mod Fronts
pub mod FedLaws
pub mod Printing
pub mod ReplyLaws
pub mod WorkLaws
mod Led
mod StoreAskedFor
