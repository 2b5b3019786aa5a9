pub mod AnswerLaws
pub mod Turns
