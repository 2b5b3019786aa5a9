pub mod AtomTurns
pub mod CellTurns
pub mod FieldTurns
pub mod MatchSteps
pub mod SmallLaws
pub mod WalkTurns
