pub mod Answers
pub mod Choice
pub mod Kept
pub mod Eleven
pub mod Line
