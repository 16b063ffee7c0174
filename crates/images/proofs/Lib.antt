pub mod GreatestLevel
pub mod Choices
pub mod Targets
pub mod ImageRows
