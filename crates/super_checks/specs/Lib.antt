pub mod Readiness
pub mod SuperCases
