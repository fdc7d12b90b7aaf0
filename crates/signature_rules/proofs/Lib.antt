mod NoCases
pub mod ResultLaws
