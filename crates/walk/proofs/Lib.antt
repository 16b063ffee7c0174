-- Laws that belong to no one function.
pub mod StepLists
pub mod CallCases
