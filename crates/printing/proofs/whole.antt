pub mod Progress
pub mod Steps
pub mod Theorems
pub mod Loop
