-- The definitions that the contracts of `play` cite.
pub mod StateLines
pub mod Play
