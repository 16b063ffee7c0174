pub mod VerdictAnswer
pub mod AnswerBounds
