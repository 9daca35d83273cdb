pub mod Names
pub mod Rows
pub mod Arguments
pub mod EntryKind
pub mod Loaded
