pub mod OwedSteps
pub mod StateConditions
pub mod SubtractSteps
