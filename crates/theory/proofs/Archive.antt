pub mod Moved
pub mod VariablesFirst
pub mod Formed
pub mod Reading
pub mod Calls
