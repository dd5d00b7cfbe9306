pub mod Toe
pub mod Curve
pub mod Matrix
pub mod Oklab
pub mod Maps
