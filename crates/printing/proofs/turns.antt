pub mod Again
pub mod Turning
