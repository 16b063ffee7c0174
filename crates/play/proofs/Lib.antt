-- Laws that belong to no one function.
pub mod StateLines
pub mod StepLines
pub mod BookAndSteps
pub mod Shown
