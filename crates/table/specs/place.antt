pub mod Stands
pub mod Placing
