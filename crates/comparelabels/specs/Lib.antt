pub mod LabelBytes
pub mod FirstFailing
pub mod RowLabels
