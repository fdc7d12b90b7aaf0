-- The top frame stores into an owning field of `this`: a constructor, into that of the object that its `new` makes; or a method that creates the obligation of `this` anew, which is lent to it.
use Rattle.std.proofs.Common.{◌≡◌, ◌⊎◌, inl, inr, ℕ, true, false, Some, None, List, ◌∷◌, slice_get, sym, ap}
use Rattle.std.proofs.lemmas.List.Elements.{All-head}
use Rattle.program_model.specs.declared.kinds.FieldId.{FieldId}
use Rattle.program_model.specs.declared.program.Program.{Program}
use Rattle.program_model.specs.Lookups.{method_at}
use Rattle.ledger_obligations.specs.Bodies.{constructs}
use Rattle.ledger_obligations.specs.MustCallSets.{is_heavy_class}
use Rattle.java_control.specs.Control.{Step}
use Rattle.control_actions.specs.declared.action.Action.TheVariants as actions
use Rattle.value_laws.specs.Accept.{Accept}
use Rattle.ledger_state.specs.Contents.{HeapContents}
use Rattle.ledger_state.specs.Heaps.{object_at, unfinished}
use Rattle.ledger_state.specs.declared.object.Object.{Object}
use Rattle.ledger_state.specs.declared.value.Value.{Value}
use Rattle.ledger_state.specs.declared.value.Value.TheVariants as values
use Rattle.value_laws.specs.Configuration.{Frame}
use Rattle.value_laws.specs.Choosing.{frame_steps}
use Rattle.value_laws.specs.Chains.{HaveEnds}
use Rattle.value_laws.specs.Heaps.{HasEarlierLinks}
use Rattle.value_laws.specs.Holders.{HoldersAreUnlinked}
use Rattle.value_laws.specs.Agreement.{Stands, AllStand, IsCalledFrom}
use Rattle.value_laws.specs.PlainForms.{HasPlainForms, StoresPlainly}
use Rattle.value_laws.specs.FieldContents.{FieldsHold, FieldsOwn, IsFieldOfClass, MakersOwn}
use Rattle.value_laws.specs.PlaceFacts.{owned, AreCovered, MakesNoAlias}
use Rattle.value_laws.specs.Ranges.{FieldsInRange, LocalsInRange}
use Rattle.covering_laws.proofs.LocalSteps.{LocalsIn}
use Rattle.program_model.specs.declared.kinds.ClassId.{ClassId}
use Rattle.program_model.specs.declared.program.Method.{Method}
use Rattle.value_laws.specs.Frames.{HaveTargets, frame_after}
use Rattle.covering_laws.proofs.StoringThis.{IsReopened, IsItsField, its_class, its_field, storing_this}
use Rattle.covering_laws.specs.Texts.{TextsAreLight}
use Rattle.value_laws.specs.Types.{KeepsTypes, is_text}
use Rattle.value_laws.specs.Renewing.{reopens}
use Rattle.covering_laws.proofs.Storing.{storing}
use Rattle.covering_laws.proofs.LinkedExceptions.{still_aliases}
use Rattle.ledger_state.specs.Values.{number_of}
use Rattle.ledger_steps.specs.InnerSteps.{heap_stored, store_of, store_unless, thrown_heap}
use Rattle.value_laws.proofs.Chains.{object_there}
use Rattle.covering_laws.specs.Linking.{LinkedAreAliases}
use Rattle.covering_laws.proofs.ConstructorStores.{new_joined}
use Rattle.covering_laws.proofs.MethodStores.{reset_joined}
use Rattle.covering_laws.proofs.StoreMoves.{IsJoined}
use Rattle.covering_laws.proofs.UnlinkedThis.{this_object, unlinked_this}
use Rattle.covering_laws.specs.Sight.{ActsInSight, AllActInSight}
use Rattle.program_model.specs.SuperTests.{is_under}

module _ (p : Program) (ac : Accept p) (forms : HasPlainForms p) (h : HeapContents) (links : HasEarlierLinks h) (ranges : FieldsInRange h) (fr : Frame) (frs : List Frame) (st : Stands p fr) (standing : AllStand p frs) (stacked : IsCalledFrom p h fr frs)
    (targets : HaveTargets p (fr ∷ frs)) (hold : FieldsHold p (fr ∷ frs) h) (have : HaveEnds h) (unlinked : HoldersAreUnlinked (is_heavy_class p) h) (in' : LocalsIn h (fr ∷ frs)) (owned : FieldsOwn p h) (makers : MakersOwn p h (fr ∷ frs)) (linked : LinkedAreAliases p h) (sight : ActsInSight p h fr)
    (sights : AllActInSight p h frs) (texts : TextsAreLight p h) (types : KeepsTypes (is_text p h) p fr) (covered : AreCovered p h (fr ∷ frs)) (i : ℕ) (s : Step) (here : slice_get (frame_steps p fr) i ≡ Some s) (f : FieldId) (d : ℕ) (is : s.action ≡ actions.PutOwn f d) (made : Value) where
  -- it is as the rules ask
  plainly : StoresPlainly p (method_at p fr.method) f
  plainly = sight.rules.stores i s f d here is

  -- the frame runs on an object
  on_this : (w : ℕ) × (fr.locals.this ≡ values.Object w)
  on_this = this_object p ac fr st sight.on (storing p ac forms h covered.0 frs fr st covered.2 i d s f here is plainly)

  abbrev w : ℕ
  w = on_this.0

  this : fr.locals.this ≡ values.Object w
  this = on_this.1

  self : (x : Object) × (object_at h w ≡ Some x)
  self =
      let number = (All-head (λ (x : Frame). LocalsInRange h x.locals) fr frs in').this w (ap number_of this) in
      let class : ClassId = record { 0 = 0 } in
      object_there h w (unfinished class) number.0 number.1

  under : (m : Method) → method_at p fr.method ≡ Some m → is_under p (self.0).class m.class ≡ true
  under m at = sight.stands w self.0 m this self.1 at

  single : reopens (method_at p fr.method) ≡ true → ((self.0).link ≡ None) × MakesNoAlias p (self.0).class
  single opens = unlinked_this p ac forms h linked fr st w self.0 self.1 under opens

  abbrev its : IsItsField p ac forms h links owned fr (All-head (λ (x : Frame). LocalsInRange h x.locals) fr frs in') st covered.0 frs targets.0 covered.2 hold.unfinished i s here f d is plainly w this self.0 self.1 under single
  its = its_field p ac forms h links owned fr (All-head (λ (x : Frame). LocalsInRange h x.locals) fr frs in') st covered.0 frs targets.0 covered.2 hold.unfinished i s here f d is plainly w this self.0 self.1 under single

  class : IsFieldOfClass p f (self.0).class
  class = (its.field, its.known, sym (its_class p ac forms h links owned fr (All-head (λ (x : Frame). LocalsInRange h x.locals) fr frs in') st covered.0 frs targets.0 covered.2 hold.unfinished i s here f d is plainly w this self.0 self.1 under single))

  kind : (((self.0).finished ≡ false) × (constructs (method_at p fr.method) ≡ true)) ⊎ IsReopened p h frs fr w self.0
  kind = storing_this p ac forms h links owned fr (All-head (λ (x : Frame). LocalsInRange h x.locals) fr frs in') st covered.0 frs targets.0 covered.2 hold.unfinished i s here f d is plainly w this self.0 self.1 under single

  -- the heap of the step
  abbrev pub store_heap : HeapContents
  store_heap = heap_stored p (method_at p fr.method) fr.locals (store_unless None (store_of fr.locals s.action)) (thrown_heap p None h)

  abbrev pub after : Frame
  after = frame_after p h fr s made

  by_constructor : (self.0).finished ≡ false → constructs (method_at p fr.method) ≡ true → IsJoined p h store_heap after frs
  by_constructor done makes = new_joined p ac forms h links ranges fr frs st hold i s here f d is plainly made w this self.0 self.1 done makes class have unlinked in' covered owned makers

  by_method : IsReopened p h frs fr w self.0 → IsJoined p h store_heap after frs
  by_method opened = reset_joined p ac forms h links ranges fr frs st standing stacked targets.1 hold i s here f d is plainly made w this self.0 self.1 opened class have unlinked in' owned texts types covered.0 covered.1 covered.2 covered.3 covered.4 sights makers

  pub joined : IsJoined p h store_heap after frs
  joined = elim kind [ inl new ↦ by_constructor new.0 new.1 | inr opened ↦ by_method opened ]

  pub store_linked : LinkedAreAliases p store_heap
  store_linked = still_aliases p h store_heap joined.were linked
