pub mod CellTurns
pub mod NumberLaws
pub mod NumberTurns
pub mod SampleLaws
