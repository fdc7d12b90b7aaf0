pub mod Obligations
pub mod SuperPass
pub use Rattle.super_checks.specs.SuperCases
