pub mod Accepted
pub mod Cases
pub mod Targets
pub mod Typings
pub use Rattle.java_call_rules.specs.Surroundings
