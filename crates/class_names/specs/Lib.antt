pub mod ClassNames
pub mod Indexes
pub mod Meanings
pub mod WrittenTypes
