pub mod Lists
pub mod OverridingSignatures
pub mod OverridingRuns
pub mod Constants
mod Pairs
mod PairClasses
pub mod Overriding
pub mod Names
pub mod OwnMethodRuns
pub mod Owners
pub mod Named
mod Types
pub mod Results
mod Annotated
mod Running
mod DispatchSignatures
pub mod Calls
pub mod Conducts
pub mod Operations
pub use Rattle.agreement.proofs.Begun
pub use Rattle.agreement.proofs.ConstructorReached
pub use Rattle.agreement.proofs.Counts
pub use Rattle.agreement.proofs.Emptied
pub use Rattle.agreement.proofs.EndLaws
pub use Rattle.agreement.proofs.EndLinks
pub use Rattle.agreement.proofs.ClassItems
pub use Rattle.agreement.proofs.ClassTypes
pub use Rattle.agreement.proofs.Root
pub use Rattle.agreement.proofs.ClassWays
pub use Rattle.agreement.proofs.EndResets
pub use Rattle.agreement.proofs.ResetHeaps
pub use Rattle.agreement.proofs.FieldPlaces
pub use Rattle.agreement.proofs.Fields
pub use Rattle.agreement.proofs.HeapFrameEnds
pub use Rattle.agreement.proofs.HeapLaws
pub use Rattle.agreement.proofs.Links
pub use Rattle.agreement.proofs.NoteLaws
pub use Rattle.agreement.proofs.NoteLists
pub use Rattle.agreement.proofs.OperationTypeLaws
pub use Rattle.agreement.proofs.Orders
pub use Rattle.agreement.proofs.Origins
pub use Rattle.agreement.proofs.OtherPlaces
pub use Rattle.agreement.proofs.Reached
pub use Rattle.agreement.proofs.Renewed
pub use Rattle.agreement.proofs.Returned
pub use Rattle.agreement.proofs.RootLaws
pub use Rattle.agreement.proofs.SetLaws
pub use Rattle.agreement.proofs.StartReached
pub use Rattle.agreement.proofs.StoredObjects
pub use Rattle.agreement.proofs.StoreResets
pub use Rattle.agreement.proofs.Temps
pub use Rattle.agreement.proofs.Tests
pub use Rattle.agreement.proofs.Traces
pub use Rattle.agreement.proofs.TypeItems
pub use Rattle.agreement.proofs.TypeWays
pub use Rattle.agreement.proofs.ValuesAfter
