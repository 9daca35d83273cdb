pub mod Turned
pub mod Walking
