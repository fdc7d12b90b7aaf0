-- What the contracts of case files speak of.
pub mod Escapes
pub mod Faults
pub mod Agreement
pub mod Counts
