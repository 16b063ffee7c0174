pub mod BuiltAnswer
pub mod Room
