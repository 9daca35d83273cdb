pub mod Keys
pub mod Classes
