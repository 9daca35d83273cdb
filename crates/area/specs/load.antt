pub mod Loading
pub mod Ready
pub mod Held
