-- Laws that belong to no one function.
pub mod LowestBelow
pub mod SoughtRequests
pub mod RequestFindings
pub mod MarkRounds
pub mod BlockedStates
pub mod FindingsAre
