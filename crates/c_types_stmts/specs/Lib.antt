pub mod Adding
pub mod Behind
