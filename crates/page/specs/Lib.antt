-- The definitions that the contracts of `page` cite.
pub mod Depths
pub mod LineColumns
pub mod PageAnswer
