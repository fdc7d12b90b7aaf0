pub mod Examples
pub mod Goodness
pub mod LocalExamples
pub mod WellTyped
