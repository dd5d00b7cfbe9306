pub mod Jet
pub mod Saturation
pub mod Cusp
pub mod Intersection
pub mod Triangle
pub mod Chroma
