pub mod Booleans
pub mod SettledLaws
