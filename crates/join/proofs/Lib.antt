pub mod Numbers
pub mod BookRows
