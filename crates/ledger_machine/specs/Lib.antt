pub mod Configurations
pub mod Turns
