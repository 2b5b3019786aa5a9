pub mod LeavingLaws
pub mod GivenCases
pub mod PresLaws
pub mod SearchFormed
