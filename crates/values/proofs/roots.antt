pub mod Reading
pub mod Settled
pub mod RootStep
pub mod Flags
