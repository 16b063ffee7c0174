-- The definitions that the contracts of `way` cite.
pub mod ShownAnswer
pub mod FirstState
