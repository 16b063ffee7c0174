-- The definitions that the contracts of `opened` cite.
pub mod OpenedCalls
