pub mod Arguments
pub mod Terms
pub mod Same
pub mod Held
