mod Powers
mod Rounding
mod NearestRoot
mod Patterns
mod FloatRoots
mod Signs
mod LeadingDigits
