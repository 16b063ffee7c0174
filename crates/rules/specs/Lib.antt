pub mod Arrays
pub mod RuleSets
pub mod Changes
