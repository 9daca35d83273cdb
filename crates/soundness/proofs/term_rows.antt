pub mod Bindings
pub mod TermRow
