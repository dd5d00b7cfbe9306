pub mod Decimals
pub mod Ops
pub mod Meaning
pub mod Exactness
pub mod Formulas
pub mod Faults
pub mod Floats
pub mod SameFloats
