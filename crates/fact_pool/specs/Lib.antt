pub mod Intern
pub mod Layout
pub mod Regions
