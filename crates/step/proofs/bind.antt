pub mod Tests
pub mod Words
pub mod Chosen
