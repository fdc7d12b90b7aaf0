pub mod Document
pub mod Members
pub mod Reading
