pub mod SamePairs
pub mod TurnSteps
