pub mod Entries
pub mod Columns
pub mod Checks
