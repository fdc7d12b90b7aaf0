pub mod Keys
pub mod Members
