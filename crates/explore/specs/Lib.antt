pub mod SetImages
pub mod Reaches
