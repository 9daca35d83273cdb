pub mod Terms
pub mod Encoding
pub mod RowsBook
pub mod BookHeld
pub mod Copied
