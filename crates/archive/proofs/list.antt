pub mod OfKind
pub mod Stored
pub mod Numbers
pub mod Inverting
