pub mod NameTable
pub mod MustSets
pub mod Signed
pub use Rattle.annotation_rules.specs.AnnotationCases
pub use Rattle.annotation_rules.specs.Assigned
pub use Rattle.annotation_rules.specs.Bodies
pub use Rattle.effective_signatures.specs.Effective
pub use Rattle.effective_signatures.specs.Targets as EffectiveSignaturesTargets
pub use Rattle.effective_signatures.specs.Sets
pub use Rattle.effective_signatures.specs.SignedMethods
pub use Rattle.annotation_rules.specs.WellFormed
