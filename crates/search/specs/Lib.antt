pub mod Trail
pub mod Found
pub mod Searched
