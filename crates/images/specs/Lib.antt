pub mod Choice
pub mod Images
