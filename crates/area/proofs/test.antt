pub mod Tested
pub mod Whole
pub mod Cut
