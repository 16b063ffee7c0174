pub mod StateWords
pub mod Classes
pub mod Rounds
pub mod NextClasses
