pub mod Casts
pub mod Conditionals
pub mod Conversions
pub mod Operators
pub mod Types
