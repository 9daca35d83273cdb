pub mod Digits
pub mod Puts
pub mod Numbers
pub mod Lines
