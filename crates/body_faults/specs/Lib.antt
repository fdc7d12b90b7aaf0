pub mod Broken
pub mod Breaches
