pub mod Laws
pub mod Rooms
pub mod Descent
pub mod Growth
