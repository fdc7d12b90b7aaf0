pub mod SignedPrograms
pub use Rattle.signature_rules.specs.OwnerCases
pub use Rattle.signature_rules.specs.ResultCases
pub use Rattle.signature_rules.specs.RulePasses
pub use Rattle.signature_rules.specs.TextCases
pub use Rattle.signature_rules.specs.TextFieldCases
pub use Rattle.must_call_types.specs.WellFormed
