-- Laws that belong to no one function.
pub mod LabelBytes
pub mod FirstFailing
pub mod RowLabels
