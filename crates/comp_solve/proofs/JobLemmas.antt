pub mod AnswersFound
