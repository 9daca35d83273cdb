pub mod Equations
pub mod Ends
pub mod Put
pub mod Binding
pub mod Heights
pub mod StandsFor
