pub mod Gives
pub mod Written
pub mod Round
pub mod Opening
pub mod Parses
pub mod Fronts
pub mod Empty
