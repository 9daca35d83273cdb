pub mod Marks
pub mod Meeting
pub mod Rows
pub mod Items
pub mod Renumbering
pub mod Whole
