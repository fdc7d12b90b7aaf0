pub mod Rules
pub use Rattle.class_overrides.specs.Cases
pub use Rattle.class_overrides.specs.Results
