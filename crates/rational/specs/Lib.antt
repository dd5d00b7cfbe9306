-- Definitions, and the statements that are proved of them.
pub mod Algebra
pub mod Gcd
pub mod Rational
pub mod Polynomial
pub mod Nearest
pub mod Toe
pub mod Curve
pub mod Parts
pub mod Cases
