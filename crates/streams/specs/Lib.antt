-- The definitions that the contracts of `streams` cite.
pub mod Input
