-- The table of cases: equations between the definitions and what document 01 and its source say that they give. proofs/Cases.antt proves each.
pub mod Claim
pub mod Samples
pub mod Document
pub mod Several
pub mod Khoumsi
pub mod ReadBytes
pub mod Refusals
pub mod Limits
pub mod EachByte
pub mod Calls
pub mod Starts
pub mod Pages
pub mod Ways
pub mod NoRules
pub mod Large
pub mod AllCases
