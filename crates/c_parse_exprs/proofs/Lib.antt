pub mod Cursor
pub mod Steps
pub mod Loops
pub mod TypeSteps
pub mod Links
pub mod Arguments
pub mod ExprSteps
