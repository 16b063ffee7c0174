-- Laws that belong to no one function.
pub mod CompareRefusals
pub mod ComparedAnswer
