pub mod Assignments
pub mod Calls
pub mod Fields
pub mod Names
