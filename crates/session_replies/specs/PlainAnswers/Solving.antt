-- What is said of solving to those who stand on this crate.
pub use Rattle.comp_solve.specs.Job.Laws.{AgreedAreLookedUp}
pub use Rattle.comp_solve.specs.Job.Solves.{IsStoredEntry, Solves, solve}
