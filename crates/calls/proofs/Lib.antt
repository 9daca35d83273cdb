pub mod Outcomes
pub mod Loading
