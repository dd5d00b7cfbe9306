pub mod Valves
pub mod Ranges
pub mod Fletcher
pub mod Layout
pub mod Trips
