pub mod Tables
pub mod Leaving
