pub mod Shown
pub mod Source
