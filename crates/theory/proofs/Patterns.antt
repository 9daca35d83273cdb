pub mod Lgg
pub mod Entry
pub mod Lines
pub mod Readings
