pub mod Below
pub mod Parts
