pub mod Values
pub mod Rooms
