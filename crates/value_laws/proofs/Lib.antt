pub mod ValueTypeFields
mod ValueTypeOwningFields
mod ValueTypeVariables
mod ValueTypeOperands
pub mod ValueTypeTexts
mod ValueTypeGifts
pub mod Moved
mod ValueTypeBegun
pub mod ValueTypeLaws
pub mod ObjectClasses
mod Origins
mod Temps
mod ClassVariables
mod ClassOperands
mod ClassGifts
mod CaughtClasses
mod ClassFields
mod ClassOwningFields
mod ClassBegun
pub mod Made
pub mod ClassLaws
pub mod ClassArguments
pub mod TextValues
pub mod GivenValues
pub mod Fronts
pub mod Statements
pub mod Kept
pub mod Ways
pub mod ThrownValues
pub mod Frames
pub mod ThrownLaws
pub use Rattle.frame_laws.proofs.AliasConducts
pub use Rattle.frame_laws.proofs.AliasFacts
pub use Rattle.frame_laws.proofs.AliasRoots
pub use Rattle.frame_laws.proofs.LastingFacts
pub use Rattle.frame_laws.proofs.LastingSteps
pub use Rattle.frame_laws.proofs.StoresOutside
pub use Rattle.frame_laws.proofs.ArgumentLaws
pub use Rattle.dispatch_laws.proofs.Begun
pub use Rattle.frame_laws.proofs.CallNames
pub use Rattle.frame_laws.proofs.CallWays
pub use Rattle.dispatch_laws.proofs.Calls
pub use Rattle.frame_laws.proofs.Carried
pub use Rattle.frame_laws.proofs.Readings
pub use Rattle.frame_laws.proofs.Cases
pub use Rattle.frame_laws.proofs.Chains
pub use Rattle.dispatch_laws.proofs.Conducts
pub use Rattle.frame_laws.proofs.Configs
pub use Rattle.dispatch_laws.proofs.ConstructorReached
pub use Rattle.dispatch_laws.proofs.Counts
pub use Rattle.dispatch_laws.proofs.Owners as DispatchOwners
pub use Rattle.dispatch_laws.proofs.Emptied
pub use Rattle.dispatch_laws.proofs.EndLaws
pub use Rattle.dispatch_laws.proofs.EndLinks
pub use Rattle.dispatch_laws.proofs.EndResets
pub use Rattle.dispatch_laws.proofs.ResetHeaps
pub use Rattle.frame_laws.proofs.Ending
pub use Rattle.frame_laws.proofs.Entries
pub use Rattle.frame_laws.proofs.EntryFacts
pub use Rattle.frame_laws.proofs.FieldResets
pub use Rattle.frame_laws.proofs.HeldPlaces
pub use Rattle.frame_laws.proofs.LentThis
pub use Rattle.frame_laws.proofs.ThisTemps
pub use Rattle.frame_laws.proofs.FactEnds
pub use Rattle.frame_laws.proofs.FactOrigins
pub use Rattle.dispatch_laws.proofs.FieldPlaces
pub use Rattle.dispatch_laws.proofs.Fields
pub use Rattle.frame_laws.proofs.Flows
pub use Rattle.frame_laws.proofs.Births as FrameBirths
pub use Rattle.frame_laws.proofs.Following as FrameFollowing
pub use Rattle.frame_laws.proofs.Kept as FrameKept
pub use Rattle.frame_laws.proofs.ArgumentBegun
pub use Rattle.frame_laws.proofs.Moved as FrameMoved
pub use Rattle.frame_laws.proofs.Operations as FrameOperations
pub use Rattle.frame_laws.proofs.Going
pub use Rattle.frame_laws.proofs.Growth
pub use Rattle.dispatch_laws.proofs.HeapFrameEnds
pub use Rattle.dispatch_laws.proofs.HeapLaws
pub use Rattle.frame_laws.proofs.KeptFacts
pub use Rattle.frame_laws.proofs.Landing
pub use Rattle.frame_laws.proofs.LibraryCallLaws
pub use Rattle.frame_laws.proofs.LibraryRuns
pub use Rattle.dispatch_laws.proofs.Links
pub use Rattle.frame_laws.proofs.Moving
pub use Rattle.frame_laws.proofs.NameCounts
pub use Rattle.dispatch_laws.proofs.Named
pub use Rattle.frame_laws.proofs.NamedReached
pub use Rattle.dispatch_laws.proofs.Names
pub use Rattle.frame_laws.proofs.Needs
pub use Rattle.dispatch_laws.proofs.NoteLaws
pub use Rattle.dispatch_laws.proofs.NoteLists
pub use Rattle.frame_laws.proofs.ObjectLaws
pub use Rattle.dispatch_laws.proofs.Operations
pub use Rattle.dispatch_laws.proofs.Orders
pub use Rattle.dispatch_laws.proofs.OtherPlaces
pub use Rattle.frame_laws.proofs.OwedFacts
pub use Rattle.frame_laws.proofs.ParameterBirths
pub use Rattle.frame_laws.proofs.PlaceLaws
pub use Rattle.frame_laws.proofs.RangeLaws
pub use Rattle.frame_laws.proofs.RangeValues
pub use Rattle.dispatch_laws.proofs.Reached
pub use Rattle.frame_laws.proofs.Ready
pub use Rattle.dispatch_laws.proofs.Renewed
pub use Rattle.frame_laws.proofs.ResetTargets
pub use Rattle.frame_laws.proofs.Resetting
pub use Rattle.frame_laws.proofs.Results
pub use Rattle.dispatch_laws.proofs.Returned
pub use Rattle.frame_laws.proofs.Returns
pub use Rattle.dispatch_laws.proofs.Root
pub use Rattle.dispatch_laws.proofs.RootLaws
pub use Rattle.dispatch_laws.proofs.SetLaws
pub use Rattle.frame_laws.proofs.SignedPromises
pub use Rattle.frame_laws.proofs.Stacks
pub use Rattle.dispatch_laws.proofs.StartReached
pub use Rattle.frame_laws.proofs.Steps
pub use Rattle.dispatch_laws.proofs.StoredObjects
pub use Rattle.dispatch_laws.proofs.StoreResets
pub use Rattle.frame_laws.proofs.Stores
pub use Rattle.frame_laws.proofs.Storing
pub use Rattle.frame_laws.proofs.TargetBegun
pub use Rattle.frame_laws.proofs.TargetLaws
pub use Rattle.dispatch_laws.proofs.Tests
pub use Rattle.dispatch_laws.proofs.Traces
pub use Rattle.frame_laws.proofs.Tracking
pub use Rattle.frame_laws.proofs.TrackingGiven
pub use Rattle.frame_laws.proofs.Unmet
pub use Rattle.dispatch_laws.proofs.ValuesAfter
pub use Rattle.frame_laws.proofs.WaysUp
pub use Rattle.frame_laws.proofs.ReachedRoots
pub use Rattle.frame_laws.proofs.ResetsUp
pub use Rattle.frame_laws.proofs.Tops
pub use Rattle.frame_laws.proofs.Spared
pub use Rattle.frame_laws.proofs.SparingCalls
pub use Rattle.frame_laws.proofs.SparingEnds
pub use Rattle.frame_laws.proofs.SettledFrames
pub use Rattle.frame_laws.proofs.StoreWays
pub use Rattle.frame_laws.proofs.MadeWays
pub use Rattle.frame_laws.proofs.SparingStays
pub use Rattle.frame_laws.proofs.WaysOverSteps
pub use Rattle.frame_laws.proofs.OldObjects
