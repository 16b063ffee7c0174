pub mod Places
pub mod Tellings
