pub mod Sized
pub mod Shape
