pub mod Digits
pub mod Roots
