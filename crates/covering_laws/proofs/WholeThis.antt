-- The `this` of a method that creates its obligation anew, where an owning field of it, whose type has an obligation, holds an object whose class has one: it is there, linked to none, and lent to the frame.
use Rattle.std.proofs.Common.{◌∷◌, ◌≡◌, inl, inr, ℕ, Bool, true, false, true≢false, Some, None, List, refl, sym, ap, ◌∙◌}
use Rattle.program_model.specs.declared.kinds.ClassId.{ClassId}
use Rattle.program_model.specs.declared.kinds.FieldId.{FieldId}
use Rattle.program_model.specs.declared.kinds.VType.{VType}
use Rattle.program_model.specs.declared.kinds.VType.TheVariants as types
use Rattle.program_model.specs.declared.program.Field.{Field}
use Rattle.program_model.specs.declared.program.Method.{Method}
use Rattle.program_model.specs.declared.program.Program.{Program}
use Rattle.program_model.specs.Lookups.{method_at}
use Rattle.program_model.specs.Overrides.{is_library}
use Rattle.rlc_base.proofs.SetLaws.{within_self}
use Rattle.std.specs.FinSet as set
use Rattle.ledger_obligations.specs.MustCallSets.{is_heavy_class, must_of, must_of_type}
use Rattle.ledger_obligations.specs.Obligations.{is_library_owner}
use Rattle.java_control.specs.Owned.{is_owning_field}
use Rattle.value_laws.specs.Accept.{Accept}
use Rattle.ledger_state.specs.Contents.{HeapContents}
use Rattle.ledger_state.specs.Fields.{field_value}
use Rattle.ledger_state.specs.Heaps.{object_at, root_of, unfinished}
use Rattle.ledger_state.specs.Values.{number_of}
use Rattle.ledger_state.specs.declared.entry.Owner.{Owner}
use Rattle.ledger_state.specs.declared.entry.Owner.TheVariants as owners
use Rattle.ledger_state.specs.declared.object.Object.{Object}
use Rattle.ledger_state.specs.declared.value.Value.TheVariants as values
use Rattle.value_laws.specs.Agreement.{Stands}
use Rattle.value_laws.specs.Chains.{HaveEnds}
use Rattle.value_laws.specs.Configuration.{Frame}
use Rattle.value_laws.specs.FieldContents.{AreUnfinished, FieldsOwn}
use Rattle.value_laws.specs.Frames.{KeepsTargets}
use Rattle.value_laws.specs.Heaps.{HasEarlierLinks}
use Rattle.value_laws.specs.PlaceFacts.{IsCovered, MakesNoAlias, MayStore, is_heavy_in}
use Rattle.value_laws.specs.PlainForms.{HasPlainForms}
use Rattle.value_laws.specs.Ranges.{LocalsInRange}
use Rattle.value_laws.specs.Renewing.{HasOwningField, IsLentFrom, reopens}
use Rattle.value_laws.proofs.Chains.{object_there}
use Rattle.value_laws.proofs.FieldPlaces.{IsBeside}
use Rattle.covering_laws.proofs.Bodies.{running_method}
use Rattle.covering_laws.proofs.ContentHolders.{field_class_is_heavy}
use Rattle.covering_laws.proofs.LentHolders.{opened_this}
use Rattle.covering_laws.proofs.Owners.{lent_owner}

-- the object is there, linked to none, and lent to the frame that stands on these
pub record IsLentThis (p : Program) (h : HeapContents) (frs : List Frame) (w : ℕ) : Type 0 where
  pub object : Object
  pub at : object_at h w ≡ Some object
  pub unlinked : object.link ≡ None
  pub lent : IsLentFrom p h frs w object.owner

-- In a method that creates the obligation of `this` anew, `this` is linked to none, and no constructor of its class makes aliases, where the class has owning fields.
abbrev pub IsSingleThis : Program → HeapContents → Frame → Type 0
IsSingleThis p h fr =
    (w : ℕ) (y : Object) → fr.locals.this ≡ values.Object w → object_at h w ≡ Some y → reopens (method_at p fr.method) ≡ true → HasOwningField p y.class → (y.link ≡ None) × MakesNoAlias p y.class

-- the library has nothing lent
pub lent_kept : (p : Program) (h : HeapContents) (frs : List Frame) (o : ℕ) (a : Owner) → IsLentFrom p h frs o a → is_library_owner a ≡ false
lent_kept p h frs o (owners.Frame i) lent = refl
lent_kept p h frs o (owners.Field w f) lent = refl
lent_kept p h frs o owners.Library lent = elim (lent_owner p h frs o owners.Library lent) [
  | inl low ↦ absurd (true≢false (sym low))
  | inr other ↦ elim other [ inl held ↦ absurd (true≢false (sym held.held)) | inr made ↦ absurd (let never : ◌≡◌ {A = Owner} owners.Library owners.Unowned = made.1 in cc) ]
]
lent_kept p h frs o owners.Released lent = refl
lent_kept p h frs o owners.Lost lent = refl
lent_kept p h frs o owners.Unowned lent = refl

module _ (p : Program) (ac : Accept p) (forms : HasPlainForms p) (h : HeapContents) (links : HasEarlierLinks h) (owned : FieldsOwn p h) (fr : Frame) (mine : LocalsInRange h fr.locals) (st : Stands p fr) (old : ℕ → Bool) (frs : List Frame)
    (targets : KeepsTargets p fr) (have : HaveEnds h) (unready : AreUnfinished p h (fr ∷ frs)) (gives : ℕ → ClassId → Bool) (renewed : ℕ → Owner → Bool) (covered : IsCovered p h gives renewed old frs fr)
    (single : IsSingleThis p h fr)
    (opens : reopens (method_at p fr.method) ≡ true) (n : ℕ) (f : FieldId) (m : Method) (runs : method_at p fr.method ≡ Some m) (beside : IsBeside p m n f) (c : ClassId) (type : beside.field.vtype ≡ types.Obj c)
    (heavy : is_heavy_class p c ≡ true) (typed : is_heavy_in p (Some f) ≡ true) (w : ℕ) (this : fr.locals.this ≡ values.Object w) (o : ℕ) (x : Object) (held : root_of h (field_value p h w f) ≡ Some o) (at : object_at h o ≡ Some x)
    (wide : is_heavy_class p x.class ≡ true) where
  there : (y : Object) × (object_at h w ≡ Some y)
  there = let number = mine.this w (ap number_of this) in let class : ClassId = record { 0 = 0 } in object_there h w (unfinished class) number.0 number.1

  -- its class is that of the method
  class : there.0.class ≡ m.class
  class =
      let declares = (owned w there.0 f o x there.1 (ap is_owning_field beside.at ∙ beside.owning) typed held at wide).0 in
      let same : declares.0 ≡ beside.field = (let both : Some declares.0 ≡ Some beside.field = sym declares.1 ∙ beside.at in cc) in
      sym declares.2 ∙ ap (λ (z : Field). z.class) same ∙ beside.class

  declared : HasOwningField p there.0.class
  declared = (f, beside.field, beside.at, beside.owning, beside.class ∙ sym class)

  stores : MayStore p there.0.class
  stores =
      let run = running_method p ac fr st in
      let one : run.0 ≡ m = (let both : Some run.0 ≡ Some m = sym run.1 ∙ runs in cc) in
      (ap (is_library p) (class ∙ ap (λ (z : Method). z.class) (sym one)) ∙ run.2, declared, (single w there.0 this there.1 opens declared).1)

  full : is_heavy_class p there.0.class ≡ true
  full = ap (is_heavy_class p) (class ∙ sym beside.class) ∙ field_class_is_heavy p ac c f beside.field beside.at beside.owning (ap (λ (t : VType). set.is_subset (must_of p c) (must_of_type p t)) type ∙ within_self (must_of p c)) heavy

  unlinked : there.0.link ≡ None
  unlinked = (single w there.0 this there.1 opens declared).0

  pub whole_this : IsLentThis p h frs w
  whole_this = record {
    object = there.0;
    at = there.1;
    unlinked = unlinked;
    lent = opened_this p ac forms h links owned fr mine st old frs targets have unready gives renewed covered opens w there.0 this there.1 full (inr (inr stores)) unlinked (inr declared);
  }
