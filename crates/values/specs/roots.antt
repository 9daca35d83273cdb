pub mod Reading
pub mod Flags
