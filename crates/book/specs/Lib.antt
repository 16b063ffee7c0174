pub mod Tellings
pub mod Rows
