pub mod Forms
pub mod Annotations
pub mod InitialValues
