pub mod Pairs
pub mod Index
pub mod Lent
