pub mod Cases
pub mod Accepted
pub mod Refused
