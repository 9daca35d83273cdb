pub mod Lists
pub mod Sizes
pub mod PlacingAll
pub mod Turning
pub mod Visiting
