-- The definitions that the contracts of `text` and of the crates above it cite.
pub mod Put
pub mod Each
pub mod Room
