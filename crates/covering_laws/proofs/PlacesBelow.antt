-- Over a store into a field of a finished object, which is lent to the frame that stores: the places of the frames below of which something is said hold what they held.
use Rattle.std.proofs.Common.{◌≡◌, ◌⊎◌, inl, inr, ℕ, ◌<◌, Bool, true, false, Option, Some, None, List, [], ◌∷◌, nat_eq, refl, sym, ap, ◌∙◌, true≢false, eqb-true, eq-eqb}
use Rattle.program_model.specs.declared.kinds.ClassId.{ClassId}
use Rattle.program_model.specs.declared.kinds.FieldId.{FieldId}
use Rattle.program_model.specs.declared.kinds.VType.TheVariants as types
use Rattle.program_model.specs.declared.program.Field.{Field}
use Rattle.program_model.specs.declared.program.Method.{Method}
use Rattle.program_model.specs.declared.program.Program.{Program}
use Rattle.program_model.specs.Lookups.{field_at, method_at}
use Rattle.program_model.specs.Overrides.{is_library}
use Rattle.control_actions.specs.declared.place.Place.{Place}
use Rattle.control_actions.specs.declared.place.Place.TheVariants as places
use Rattle.ledger_obligations.specs.Bodies.{constructs}
use Rattle.ledger_obligations.specs.MustCallSets.{is_heavy_class}
use Rattle.ledger_state.specs.Contents.{HeapContents}
use Rattle.ledger_state.specs.Fields.{field_value}
use Rattle.ledger_state.specs.Heaps.{object_at, root_of}
use Rattle.ledger_state.specs.declared.object.Object.{Object}
use Rattle.ledger_state.specs.declared.value.Value.{Value}
use Rattle.ledger_state.specs.declared.value.Value.TheVariants as values
use Rattle.value_laws.specs.Accept.{Accept}
use Rattle.value_laws.specs.Agreement.{AllStand, Stands}
use Rattle.value_laws.specs.Chains.{HaveEnds}
use Rattle.value_laws.specs.Configuration.{Frame}
use Rattle.value_laws.specs.FieldContents.{AreNew, AreUnfinished}
use Rattle.value_laws.specs.Holders.{HoldersAreUnlinked}
use Rattle.value_laws.specs.PlaceFacts.{AreWaiting, IsCovered, OwesOrHolds, is_given, is_settled}
use Rattle.value_laws.specs.PlainForms.{HasPlainForms}
use Rattle.value_laws.specs.Places.{field_place_value, owning_field_beside, place_value}
use Rattle.value_laws.specs.Renewing.{IsWholeObject, is_of_heavy_class, is_reread, lends_this, reopens}
use Rattle.value_laws.proofs.FieldPlaces.{place_of_beside}
use Rattle.value_laws.proofs.HeapLaws.{roots_of_links-itself}
use Rattle.value_laws.proofs.SettledFrames.{AllRenewInHand, IsOnTheWay, RenewsInHand, is_lending, is_unsettled, making_lends, way_goes_down}
use Rattle.covering_laws.proofs.Bodies.{running_method}
use Rattle.covering_laws.proofs.StoredPlaces.{idle_here}
use Rattle.covering_laws.proofs.Waiting.{AllKeepSaid, IsIdlePlace, KeepsSaidPlaces, KeepsValue}

module _ (p : Program) (ac : Accept p) (forms : HasPlainForms p) (h k : HeapContents) (have : HaveEnds h) (unlinked : HoldersAreUnlinked (is_heavy_class p) h) (w : ℕ) (f : FieldId) (y : Object) (there : object_at h w ≡ Some y)
    (heavy : IsWholeObject p y) (single : y.link ≡ None) (bears : OwesOrHolds p h w y) (its : (x : Field) → field_at p f ≡ Some x → y.class ≡ x.class)
    (fields : (v : ℕ) (g : FieldId) → (v ≡ w → g ≡ f → ⊥) → field_value p k v g ≡ field_value p h v g)
    (typed : (x : Field) → field_at p f ≡ Some x → (o : ℕ) (z : Object) → root_of k (field_value p k w f) ≡ Some o → object_at k o ≡ Some z → is_heavy_class p z.class ≡ true → (c : ClassId) × (x.vtype ≡ types.Obj c)) where
  abbrev OnWay : List Frame → Type 0
  OnWay gs = IsOnTheWay p h have unlinked w y there heavy single bears gs

  same_field : (a b : FieldId) → nat_eq a.0 b.0 ≡ true → a ≡ b
  same_field a b is = ap (λ (n : ℕ). (let z : FieldId = record { 0 = n } in z)) (eqb-true a.0 b.0 is)

  one_false : (b : Bool) → (b ≡ true → ⊥) → b ≡ false
  one_false true never = absurd (never refl)
  one_false false never = refl

  module _ (g : Frame) (gs : List Frame) (st : Stands p g) (new : AreNew p (g ∷ gs)) (unfinished : AreUnfinished p h gs) (renews : RenewsInHand p h g gs) (all : AllRenewInHand p h gs) (way : OnWay (g ∷ gs)) (old : ℕ → Bool)
      (covered : IsCovered p h (is_given p h g) (is_reread p h g) old gs g) where
    -- the frame runs on the object, and does not lend it
    idle : (n : ℕ) → n < 16 → owning_field_beside p g.method n ≡ Some f → g.locals.this ≡ values.Object w → lends_this p g ≡ false → IsIdlePlace p k gs g (places.Field n)
    idle n small beside this keeps =
        idle_here p ac forms h k gs g st plain closed wide unsettled (is_given p h g) (is_reread p h g) old covered w y (ap (root_of h) this ∙ ap Some (roots_of_links-itself h w y there single)) there heavy.1 bears n small f beside
        (λ x at o z root at' wide'. typed x at o z (sym (ap (root_of k) value) ∙ root) at' wide')
      where
        run : (m : Method) × (method_at p g.method ≡ Some m) × (is_library p m.class ≡ false)
        run = running_method p ac g st

        plain : constructs (method_at p g.method) ≡ false
        plain = one_false (constructs (method_at p g.method)) (λ makes. true≢false (sym (making_lends p h have unlinked w y there heavy single bears g gs way new unfinished renews all this makes) ∙ keeps))

        closed : reopens (method_at p g.method) ≡ false
        closed = one_false (reopens (method_at p g.method)) (λ opens. true≢false (sym (is_lending p h have unlinked w y there heavy single bears g gs way new unfinished renews all this opens) ∙ keeps))

        unsettled : is_settled p g gs ≡ false
        unsettled = is_unsettled p h have unlinked w y there heavy single bears g gs way new unfinished renews all this

        wide : is_of_heavy_class p (method_at p g.method) ≡ true
        wide =
            let b = place_of_beside p ac.well_formed.valid.typed g.method run.0 n f run.1 small beside in
            ap (is_of_heavy_class p) run.1 ∙ ap (is_heavy_class p) (sym b.class ∙ sym (its b.field b.at)) ∙ heavy.1

        value : place_value p k g.method g.locals (places.Field n) ≡ field_value p k w f
        value = ap (field_place_value p k g.locals.this) beside ∙ ap (λ (v : Value). field_place_value p k v (Some f)) this

    abbrev Keeps : Place → Type 0
    Keeps q = KeepsValue p h k (place_value p h g.method g.locals q) (place_value p k g.method g.locals q) ⊎ IsIdlePlace p k gs g q

    -- what is no object has no fields
    nothing : (n : ℕ) (f' : FieldId) → owning_field_beside p g.method n ≡ Some f' → (v : Value) → g.locals.this ≡ v → field_place_value p k v (Some f') ≡ field_place_value p h v (Some f') → Keeps (places.Field n)
    nothing n f' beside v this same =
        inl (inl (ap (field_place_value p k g.locals.this) beside ∙ ap (λ (u : Value). field_place_value p k u (Some f')) this ∙ same
        ∙ sym (ap (field_place_value p h g.locals.this) beside ∙ ap (λ (u : Value). field_place_value p h u (Some f')) this)))

    in_field : (n : ℕ) → n < 16 → lends_this p g ≡ false → (x : Option FieldId) → owning_field_beside p g.method n ≡ x → (v : Value) → g.locals.this ≡ v → Keeps (places.Field n)
    in_field n small keeps None beside v this =
        inl (inl (ap (field_place_value p k g.locals.this) beside ∙ sym (ap (field_place_value p h g.locals.this) beside)))
    in_field n small keeps (Some f') beside (values.Object v) this = by (nat_eq v w) refl (nat_eq f'.0 f.0) refl
      where
        at : (j : HeapContents) → place_value p j g.method g.locals (places.Field n) ≡ field_value p j v f'
        at j = ap (field_place_value p j g.locals.this) beside ∙ ap (λ (u : Value). field_place_value p j u (Some f')) this

        other : (v ≡ w → f' ≡ f → ⊥) → Keeps (places.Field n)
        other apart = inl (inl (at k ∙ fields v f' apart ∙ sym (at h)))

        by : (a : Bool) → nat_eq v w ≡ a → (b : Bool) → nat_eq f'.0 f.0 ≡ b → Keeps (places.Field n)
        by true same true one = inr (idle n small (beside ∙ ap Some (same_field f' f one)) (this ∙ ap values.Object (eqb-true v w same)) keeps)
        by true same false one = other (λ to field. true≢false (sym (eq-eqb f'.0 f.0 (ap (λ (z : FieldId). z.0) field)) ∙ one))
        by false same b one = other (λ to field. true≢false (sym (eq-eqb v w to) ∙ same))
    in_field n small keeps (Some f') beside values.Nothing this = nothing n f' beside values.Nothing this refl
    in_field n small keeps (Some f') beside v this = nothing n f' beside v this refl

    pub keeps_said_here : KeepsSaidPlaces p h k gs g
    keeps_said_here (places.Var i) small kept = inl (inl refl)
    keeps_said_here places.This small kept = inl (inl refl)
    keeps_said_here (places.Temp d) small kept = inl (inl refl)
    keeps_said_here places.Super small kept = inl (inl refl)
    keeps_said_here (places.Field n) small kept = in_field n small kept (owning_field_beside p g.method n) refl g.locals.this refl

  pub all_keep_said_below : (frs : List Frame) (above : ℕ → Bool) → AllStand p frs → AreNew p frs → AreUnfinished p h frs → AllRenewInHand p h frs → OnWay frs → AreWaiting p h above frs → AllKeepSaid p h k frs
  all_keep_said_below [] above stand new unfinished all way waits = tt
  all_keep_said_below (g ∷ gs) above stand new unfinished all way (old, up, is, covered, rest) = (
    keeps_said_here g gs stand.0 new unfinished.1 all.0 all.1 way old covered,
    all_keep_said_below gs old stand.1 new.1 unfinished.1 all.1 (way_goes_down p h have unlinked w y there heavy single bears g gs new unfinished way) rest,
  )
