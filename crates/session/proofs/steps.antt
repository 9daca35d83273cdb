pub mod Told
pub mod Opening
pub mod Stepping
pub mod Lines
