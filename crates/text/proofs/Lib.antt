-- Laws that belong to no one function.
pub mod Puts
pub mod Each
pub mod Room
