pub mod Arguments
pub mod Book
pub mod Outcome
pub mod Parsing
pub mod Term
pub mod TermRows
pub mod Whole
