-- The definitions that the contracts of `packing` and `policybook` cite.
pub mod Packing
pub mod PackedBounds
