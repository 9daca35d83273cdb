pub mod Search
pub mod Place
pub mod WalkEntries
pub mod WalkInvariant
pub mod WalkRight
pub mod Size
pub mod WalkLength
