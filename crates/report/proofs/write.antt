pub mod Tables
pub mod Rows
pub mod Heads
pub mod Bytes
pub mod Lengths
pub mod Writing
pub mod Given
pub mod Whole
