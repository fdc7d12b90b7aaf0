pub mod Places
pub mod Typed
pub mod Values
pub mod FrameValues
pub use Rattle.step_laws.specs.Accept
pub use Rattle.step_laws.specs.AcceptedProgramsConditions
pub use Rattle.step_laws.specs.Aliases
pub use Rattle.step_laws.specs.CalledRows
pub use Rattle.step_laws.specs.Calling
pub use Rattle.step_laws.specs.Calls
pub use Rattle.step_laws.specs.Constructors
pub use Rattle.step_laws.specs.Effective
pub use Rattle.step_laws.specs.EffectiveSignaturesTargets
pub use Rattle.step_laws.specs.Ends
pub use Rattle.step_laws.specs.ClassOperands
pub use Rattle.step_laws.specs.Flow
pub use Rattle.step_laws.specs.MustSets
pub use Rattle.step_laws.specs.NameTable
pub use Rattle.step_laws.specs.Naming
pub use Rattle.ledger_frames.specs.Obligations
pub use Rattle.step_laws.specs.Operands
pub use Rattle.step_laws.specs.OwningFieldsStores
pub use Rattle.step_laws.specs.Paths
pub use Rattle.step_laws.specs.PlaceRows
pub use Rattle.step_laws.specs.Preconditions
pub use Rattle.step_laws.specs.Promises
pub use Rattle.step_laws.specs.Sets
pub use Rattle.step_laws.specs.Setting
pub use Rattle.step_laws.specs.Signed
pub use Rattle.step_laws.specs.SignedMethods
pub use Rattle.step_laws.specs.Origins as StepOrigins
pub use Rattle.step_laws.specs.Starts as StepStarts
pub use Rattle.step_laws.specs.Targets as StepTargets
pub use Rattle.step_laws.specs.SuperArguments
