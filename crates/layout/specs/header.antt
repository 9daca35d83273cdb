pub mod Row
pub mod Held
