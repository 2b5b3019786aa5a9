pub mod Adding
pub mod CountedLaws
pub mod ForgetTurns
pub mod JoinTurns
pub mod PairTurns
pub mod SeenTurns
