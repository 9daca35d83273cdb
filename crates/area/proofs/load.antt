pub mod Parts
pub mod Uses
