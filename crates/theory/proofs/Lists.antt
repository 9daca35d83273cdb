pub mod Laws
pub mod Pigeonhole
pub mod Conjunctions
pub mod Rows
pub mod AreBytes
pub mod From
pub mod Keep
