pub mod Tally
pub mod Parts
pub mod Walks
pub mod Outcomes
pub mod Orders
