pub mod Both
pub mod Storing
