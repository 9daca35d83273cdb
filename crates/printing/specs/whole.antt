pub mod Whole
pub mod Loop
