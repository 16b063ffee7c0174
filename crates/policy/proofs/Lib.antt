pub mod Parts
pub mod PassedFile
pub mod ValuationSums
