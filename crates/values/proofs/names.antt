pub mod Keys
pub mod Lowest
pub mod ClassOf
pub mod Classifying
