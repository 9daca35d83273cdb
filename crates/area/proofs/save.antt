pub mod Stored
pub mod JustOpened
