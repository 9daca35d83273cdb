pub mod Saying
pub mod Worded
