-- Laws that belong to no one function.
pub mod VerdictAnswer
pub mod SmallFindings
pub mod AnswerBounds
pub mod Returned
