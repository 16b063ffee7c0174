pub mod Arrays
pub mod RuleSets
pub mod Values
pub mod Changes
