-- Laws that belong to no one function.
pub mod FindingLines
pub mod Forms
