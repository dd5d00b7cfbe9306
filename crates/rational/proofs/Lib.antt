-- Lemmas, and the solvers `ring!`, `field!`, `equal!`, `above!` and `least!`.
pub mod Integers
pub mod Ring
pub mod Ratios
pub mod Rationals
pub mod Field
pub mod Order
pub mod Compared
pub mod Sums
pub mod Products
pub mod Roots
pub mod Parts
pub mod Nearest
pub mod Toe
pub mod Curve
pub mod Cases
