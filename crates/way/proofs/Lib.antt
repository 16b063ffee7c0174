-- Laws that belong to no one function.
pub mod VisitTurns
pub mod SearchLevels
pub mod FirstStates
pub mod ShownWays
pub mod WayAnswers
