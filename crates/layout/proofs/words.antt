pub mod Elements
pub mod Runs
pub mod Laws
pub mod Parts
pub mod Behind
