pub mod Values
pub mod Contents
pub mod Heaps
pub mod StoredFields
pub mod Fields
pub mod Locals
pub mod Classes
pub mod Leaks
