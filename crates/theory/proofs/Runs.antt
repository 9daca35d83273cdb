pub mod Fits
pub mod States
pub mod Simulation
pub mod Lines
pub mod Again
pub mod Alone
pub mod LineOnAreas
pub mod UnlikeCounts
