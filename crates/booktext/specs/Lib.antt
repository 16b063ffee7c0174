-- The definitions that the contracts of `booktext` and of the crates above it cite.
pub mod FindingLines
pub mod Hex
pub mod Forms
