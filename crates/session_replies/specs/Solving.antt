-- What is said of solving to those who stand on this crate.
pub use Rattle.session_replies.specs.PlainAnswers.Solving.{IsStoredEntry, Solves, solve}
