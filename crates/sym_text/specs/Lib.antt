pub mod Text
pub mod Grammar
pub mod Led
pub mod Reading
pub mod Outcome
pub mod Shape
