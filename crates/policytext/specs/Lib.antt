-- The definitions that the contracts of `policytext` and of the crates above it cite.
pub mod PolicyText
