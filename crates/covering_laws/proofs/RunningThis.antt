-- `this` of a frame that acts in sight of the rule on owning fields: it is of the class of the method that runs, and of that of a method which is called on it.
use Rattle.std.proofs.Common.{◌≡◌, ℕ, Bool, Some, List, slice_get}
use Rattle.program_model.specs.declared.kinds.ClassId.{ClassId}
use Rattle.program_model.specs.declared.program.Program.{Program}
use Rattle.java_control.specs.Control.{Step}
use Rattle.ownership_rules.specs.Callees.{callee}
use Rattle.ledger_state.specs.Contents.{HeapContents}
use Rattle.ledger_state.specs.declared.entry.Owner.{Owner}
use Rattle.value_laws.specs.Accept.{Accept}
use Rattle.value_laws.specs.Agreement.{Stands}
use Rattle.value_laws.specs.Choosing.{frame_steps}
use Rattle.value_laws.specs.ClassValues.{IsOnInstance}
use Rattle.value_laws.specs.Configuration.{Frame}
use Rattle.value_laws.specs.Frames.{KeepsTargets}
use Rattle.value_laws.specs.PlaceFacts.{IsCovered}
use Rattle.value_laws.specs.PlainForms.{HasPlainForms}
use Rattle.value_laws.specs.Ranges.{LocalsInRange}
use Rattle.covering_laws.specs.Linking.{LinkedAreAliases}
use Rattle.covering_laws.specs.Sight.{ActsInSight}
use Rattle.covering_laws.proofs.IdleCalls.{LendsItsOwn}
use Rattle.covering_laws.proofs.LendingFrames.{lending_in_sight}
use Rattle.covering_laws.proofs.UnlinkedThis.{unlinked_this}
use Rattle.covering_laws.proofs.WholeThis.{IsSingleThis}

module _ (p : Program) (ac : Accept p) (forms' : HasPlainForms p) (h : HeapContents) (linked : LinkedAreAliases p h) (fr : Frame) (st : Stands p fr) (targets : KeepsTargets p fr) (mine : LocalsInRange h fr.locals) (sight : ActsInSight p h fr) where
  -- in a method that creates its obligation anew it is linked to none, where its class has owning fields
  pub single_this : IsSingleThis p h fr
  single_this w y this at opens fields = unlinked_this p ac forms' h linked fr st w y at (λ m runs. sight.stands w y m this at runs) opens

  -- a call that creates the obligation of `this` anew stands in a constructor, or in a method that does so, where the class has an obligation and owning fields
  pub lends_its_own : (i : ℕ) (s : Step) → slice_get (frame_steps p fr) i ≡ Some s → (gives : ℕ → ClassId → Bool) (renewed : ℕ → Owner → Bool) (old : ℕ → Bool) (frs : List Frame) → IsCovered p h gives renewed old frs fr
      → IsOnInstance p h fr.locals s.action (callee p s.action) → LendsItsOwn p fr s
  lends_its_own i s here gives renewed old frs covered instance = lending_in_sight p ac forms' h linked fr mine st targets sight i s here (λ resets. instance) gives renewed old frs covered
