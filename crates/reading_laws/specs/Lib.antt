pub mod SameSettings
pub mod Names
pub mod Expressions
pub mod Annotations
pub mod Statements
pub mod Declarations
pub mod Operators
pub mod SameTrees
