pub mod Aliases
pub mod PlaceRows
pub use Rattle.must_call_sets.specs.AliasCases
pub use Rattle.override_rules.specs.Cases
pub use Rattle.override_rules.specs.Results
