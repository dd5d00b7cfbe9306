mod Divisors
mod Casts
mod Signs
mod Values
mod Rooted
mod Tables
