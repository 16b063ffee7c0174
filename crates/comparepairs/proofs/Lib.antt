-- Laws that belong to no one function.
pub mod RowSteps
pub mod QueueBytes
pub mod PairSearch
