pub mod Reading
pub mod Progress
pub mod Numbers
