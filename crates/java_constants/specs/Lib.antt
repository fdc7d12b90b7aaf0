pub mod Arithmetic
pub mod Folding
