mod Indexing
pub mod Standing
