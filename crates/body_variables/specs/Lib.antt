pub mod BodyVariables
pub mod Declarations
