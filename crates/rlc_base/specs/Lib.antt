pub mod Codes
pub mod NameSet
pub mod Names
