pub mod Words
pub mod Characters
pub mod TokenClasses
pub mod Literals
pub mod Tokens
pub mod Refusals
pub mod Cut
pub mod Reading
