pub mod Effects
pub mod Lines
