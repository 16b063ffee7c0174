-- Laws that belong to no one function.
pub mod Trails
pub mod Found
pub mod FirstFound
pub mod BookSearch
pub mod SearchTurns
pub mod TableRows
