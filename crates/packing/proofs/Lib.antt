-- Laws that belong to no one function.
pub mod RefusalBounds
pub mod PackedValues
pub mod PackedBounds
