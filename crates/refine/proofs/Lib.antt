pub mod StateWords
pub mod Rounds
pub mod RoundSequence
pub mod KeptClasses
pub mod Refinement
