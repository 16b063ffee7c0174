pub mod SetRows
pub mod StatePlaces
pub mod Once
pub mod Hints
pub mod StateEntry
pub mod SituationVisits
pub mod ReachedStates
