-- A step that creates the obligation of `this` anew leaves the fields of `this` out of the facts that go on: what one of them holds is in a fact that the step bears for it. Where the frame answers for the fields
-- of `this`, the field owns it.
use Rattle.std.proofs.Common.{eq-eqb, ◌∷◌, ◌≡◌, inl, inr, ℕ, Bool, true, false, not, true≢false, Option, Some, None, List, slice_get, refl, sym, ap, ◌∙◌, subst}
use Rattle.program_model.specs.declared.kinds.ClassId.{ClassId}
use Rattle.program_model.specs.declared.kinds.FieldId.{FieldId}
use Rattle.program_model.specs.declared.kinds.VType.{VType}
use Rattle.program_model.specs.declared.kinds.VType.TheVariants as types
use Rattle.program_model.specs.declared.program.Field.{Field}
use Rattle.program_model.specs.declared.program.Program.{Program}
use Rattle.program_model.specs.Lookups.{field_at, method_at}
use Rattle.program_model.specs.SuperTests.{is_class}
use Rattle.program_model.specs.declared.program.Method.{Method}
use Rattle.value_laws.proofs.MadeWays.{made_owns}
use Rattle.program_model.specs.Validity.{is_class_type}
use Rattle.ledger_obligations.specs.MustCallSets.{is_empty, is_heavy_class, must_of_optional, must_of_type}
use Rattle.ownership_rules.specs.Signatures.{is_present, type_of_field}
use Rattle.java_control.specs.Owned.{is_owning, is_owning_field}
use Rattle.java_control.specs.Calls.{is_reset_of_this}
use Rattle.java_control.specs.Control.{Step}
use Rattle.java_control.specs.PlaceNumbers.{IsSmall}
use Rattle.java_control.specs.Sources.{is_part}
use Rattle.control_actions.specs.declared.place.Place.{Place}
use Rattle.control_actions.specs.declared.place.Place.TheVariants as places
use Rattle.value_laws.specs.Accept.{Accept}
use Rattle.ledger_state.specs.Contents.{HeapContents}
use Rattle.ledger_state.specs.Fields.{field_of, field_value}
use Rattle.ledger_state.specs.Heaps.{object_at, root_of}
use Rattle.ledger_state.specs.declared.object.Object.{Object}
use Rattle.ledger_state.specs.declared.entry.Owner.TheVariants as owners
use Rattle.ledger_state.specs.declared.value.Value.TheVariants as values
use Rattle.ledger_state.specs.declared.value.Value.{Value}
use Rattle.value_laws.specs.Agreement.{Stands}
use Rattle.value_laws.specs.Choosing.{frame_steps}
use Rattle.value_laws.specs.Configuration.{Frame}
use Rattle.value_laws.specs.Frames.{frame_after}
use Rattle.value_laws.specs.Heaps.{HasEarlierLinks}
use Rattle.value_laws.specs.Operands as operand_types
use Rattle.value_laws.specs.Operands.{NoObject}
use Rattle.value_laws.specs.PlaceFacts.{IsCovered, IsHeavyObject, IsTrueOf, OwesOrHolds, is_heavy_in}
use Rattle.value_laws.specs.Places.{field_place_value, owning_field_beside, place_value}
use Rattle.value_laws.specs.Frames.{KeepsTargets}
use Rattle.value_laws.specs.Paths.{move_of}
use Rattle.value_laws.specs.PlainForms.{HasPlainForms}
use Rattle.value_laws.specs.Ranges.{LocalsInRange}
use Rattle.value_laws.specs.Renewing.{answers_for_fields, is_declared_beside, makes_alone, reopens}
use Rattle.ledger_obligations.specs.Bodies.{alias_in, constructs, is_class_of, method_of}
use Rattle.std.proofs.lemmas.Bool.{and_from, or_left}
use Rattle.covering_laws.proofs.AliasedResets.{aliased_resets_nothing}
use Rattle.covering_laws.proofs.Bodies.{running_method}
use Rattle.covering_laws.proofs.Following.{method_here, step_there}
use Rattle.covering_laws.proofs.HeavyFields.{answers_by, reopening_answers}
use Rattle.covering_laws.proofs.LendingFrames.{opens_at}
use Rattle.covering_laws.proofs.WholeThis.{IsLentThis, IsSingleThis, lent_kept, whole_this}
use Rattle.value_laws.specs.Chains.{HaveEnds}
use Rattle.value_laws.specs.FieldContents.{AreUnfinished, FieldsOwn, HaveContents, MakersOwn}
use Rattle.value_laws.specs.Types.{StoredHoldNone, is_text}
use Rattle.value_laws.proofs.FieldPlaces.{IsBeside}
use Rattle.value_laws.proofs.ValueTypeFields.{field_of_none}
use Rattle.covering_laws.specs.Texts.{TextsAreLight}
use Rattle.covering_laws.proofs.BirthsAnew.{born_anew, fact, field, origin, ran}
use Rattle.covering_laws.proofs.HeldBirths.{field_owned, owned_true}
use Rattle.covering_laws.proofs.Owners.{StaysApart}
use Rattle.covering_laws.proofs.TopSteps.{IsBornAnew, IsLocalStep}
use Rattle.covering_laws.proofs.Waiting.{Carries, HoldsThere, IsCarried, KeepsFieldsButTexts, KeepsReady, KeepsRootsOf, bore_before, kept_place, kept_root, numbered}

-- a field of the value holds an object, so it is one
object_of : (p : Program) (h : HeapContents) (v : Value) (f : FieldId) (o : ℕ) → root_of h (field_of p h v f) ≡ Some o → (w : ℕ) × (v ≡ values.Object w) × (root_of h (field_value p h w f) ≡ Some o)
object_of p h (values.Object w) f o root = (w, refl, root)
object_of p h v f o root = absurd (let never : None ≡ Some o = root in cc)

module _ (p : Program) (ac : Accept p) (forms : HasPlainForms p) (h k : HeapContents) (texts : TextsAreLight p h) (stored : StoredHoldNone (is_text p h) p h) (links : HasEarlierLinks h) (carries : Carries h k)
    (fields : KeepsFieldsButTexts p h k) (fr : Frame) (st : Stands p fr) (i : ℕ) (s : Step) (here : slice_get (frame_steps p fr) i ≡ Some s) (r : IsLocalStep p fr st s) (inside : HoldsThere p h fr)
    (roots : KeepsRootsOf p h k fr) (v : Value) (old : ℕ → Bool) (frs : List Frame) (gives : ℕ → ClassId → Bool) (renewed : ℕ → Bool)
    (covered : IsCovered p h gives (λ o owner. renewed o) old frs fr) (ready : KeepsReady p h k fr) (others : StaysApart p h k frs fr) (owned : FieldsOwn p h) (stack : List Frame)
    (contents : HaveContents p stack h) (have : HaveEnds h)
    (keeps : (o : ℕ) (x y : Object) (w : ℕ) (f : FieldId) → object_at h o ≡ Some x → object_at k o ≡ Some y → IsHeavyObject p x → x.owner ≡ owners.Field w f → fr.locals.this ≡ values.Object w → y.owner ≡ x.owner)
    (mine : LocalsInRange h fr.locals) (targets : KeepsTargets p fr)
    (single : IsSingleThis p h fr)
    (renewed_this : (o : ℕ) → renewed o ≡ true → is_reset_of_this p s.action ≡ true → root_of h fr.locals.this ≡ Some o)
    (unready : AreUnfinished p h (fr ∷ frs)) (makers : MakersOwn p h (fr ∷ frs)) where
  abbrev after : Frame
  after = frame_after p h fr s v

  abbrev Born : Place → ℕ → Object → Type 0
  Born q o y = IsBornAnew p ac h k links carries fields fr st i s here r inside roots v old frs renewed q o y

  module _ (resets : is_reset_of_this p s.action ≡ true) (n : ℕ) (room : IsSmall (places.Field n)) (f : FieldId) (beside : owning_field_beside p fr.method n ≡ Some f) (o : ℕ) (y : Object)
      (root : root_of k (place_value p k fr.method after.locals (places.Field n)) ≡ Some o) (at : object_at k o ≡ Some y) (heavy : is_heavy_class p y.class ≡ true) (owes : OwesOrHolds p k o y) where
    -- the field held the object before
    was : root_of h (place_value p h fr.method fr.locals (places.Field n)) ≡ Some o
    was = sym (roots (places.Field n) room) ∙ sym (ap (root_of k) (kept_root p h k _ _ o (kept_place p h k fields fr.method fr.locals (places.Field n)) root)) ∙ root

    in_field : root_of h (field_of p h fr.locals.this f) ≡ Some o
    in_field = ap (λ (x : Option FieldId). root_of h (field_place_value p h fr.locals.this x)) (sym beside) ∙ was

    before : IsCarried h o y
    before = carries o y at (numbered h links (place_value p h fr.method fr.locals (places.Field n)) o was (inside (places.Field n) room)).1

    wide : is_heavy_class p before.0.class ≡ true
    wide = ap (is_heavy_class p) (sym before.2) ∙ heavy

    abbrev declared : IsBeside p (ran p ac k fr st i s here resets after old frs refl refl n room f beside) n f
    declared = field p ac k fr st i s here resets after old frs refl refl n room f beside

    bore : OwesOrHolds p h o before.0
    bore = bore_before p h k others.holders o before.0 y before.1 before.3 owes

    -- a constructor that creates the obligation of `this` anew has no aliased argument
    unaliased : constructs (method_at p fr.method) ≡ true → makes_alone (method_at p fr.method) ≡ true
    unaliased makes = go (is_present (alias_in (method_at p fr.method))) refl
      where
        go : (b : Bool) → is_present (alias_in (method_at p fr.method)) ≡ b → makes_alone (method_at p fr.method) ≡ true
        go false none = and_from (constructs (method_at p fr.method)) (not (is_present (alias_in (method_at p fr.method)))) makes (ap not none)
        go true has' =
            absurd (true≢false (sym resets
            ∙ aliased_resets_nothing p ac st.number i (move_of s) st.control (step_there p fr st i s here)
            (and_from (constructs (method_of p st.number)) (is_present (alias_in (method_of p st.number))) (ap constructs (method_here p fr st) ∙ makes) (ap (λ (m : Option Method). is_present (alias_in m)) (method_here p fr st) ∙ has'))))

    -- the field is one of the class of the method
    here_declared : is_declared_beside p fr.method (field_at p f) ≡ true
    here_declared =
        let run = running_method p ac fr st in
        ap (is_declared_beside p fr.method) declared.at
        ∙ and_from declared.field.owning (is_class_of declared.field.class (method_at p fr.method)) declared.owning
        (ap (is_class_of declared.field.class) run.1 ∙ ap (λ (d : ClassId). is_class d run.0.class) declared.class ∙ eq-eqb run.0.class.0 run.0.class.0 refl)

    -- the field owns what it holds
    module _ (own : is_owning p f ≡ true) (typed : is_heavy_in p (Some f) ≡ true) (w : ℕ) (this : fr.locals.this ≡ values.Object w) (holds : root_of h (field_value p h w f) ≡ Some o) where
      made_owned : makes_alone (method_at p fr.method) ≡ true → before.0.owner ≡ owners.Field w f
      made_owned alone = makers.0 w f o before.0 (record { alone = alone; field = f; declared = here_declared; runs = this }) own typed holds before.1 wide bore

      lent_owned : (c : ClassId) → IsLentThis p h frs w → before.0.owner ≡ owners.Field w f
      lent_owned c it = go it.object.finished refl
        where
          go : (b : Bool) → it.object.finished ≡ b → before.0.owner ≡ owners.Field w f
          go true done = field_owned p h stack owned contents have w it.object it.at done it.unlinked (lent_kept p h frs w it.object.owner it.lent) f own typed o before.0 holds before.1 wide bore
          go false open' = made_owns p h have w it.object it.at open' c frs makers.1 it.lent f o before.0 own typed holds before.1 wide bore

    of_class : (c : ClassId) → declared.field.vtype ≡ types.Obj c → Born (places.Field n) o y
    of_class c type = born_anew p ac k fr st i s here resets after old frs refl refl n room f beside c type refl (renewed o) o before.0 y (λ done. (before.3 done).0) root held sure
      where
        sure : answers_for_fields (method_at p fr.method) ≡ false → renewed o ≡ false
        sure none = go (renewed o) refl
          where
            go : (b : Bool) → renewed o ≡ b → b ≡ false
            go false is = refl
            go true is = absurd (elim (opens_at p ac forms h fr st i s here resets gives (λ u owner. renewed u) old frs covered o before.0 (renewed_this o is resets) before.1 wide bore) [
              | inl makes ↦ true≢false (sym (or_left (makes_alone (method_at p fr.method)) (reopens (method_at p fr.method)) (unaliased makes)) ∙ none)
              | inr opens' ↦ true≢false (sym (reopening_answers (method_at p fr.method) opens') ∙ none)
            ])

        held : answers_for_fields (method_at p fr.method) ≡ true → is_heavy_class p c ≡ true
            → (w : ℕ) × (fr.locals.this ≡ values.Object w) × (y.owner ≡ owners.Field w f) × IsTrueOf p before.0 (origin p ac k fr st i s here resets after old frs refl refl n room f beside c type) (fact p ac k fr st i s here resets after old frs refl refl n room f beside c type)
        held answers full =
            let it = object_of p h fr.locals.this f o in_field in
            let typed : is_heavy_in p (Some f) ≡ true = ap (λ (x : Option Field). not (is_empty (must_of_optional p (type_of_field x)))) declared.at ∙ ap (λ (t : VType). not (is_empty (must_of_type p t))) type ∙ full in
            let own : is_owning p f ≡ true = ap is_owning_field declared.at ∙ declared.owning in
            let mine' : before.0.owner ≡ owners.Field it.0 f = elim (answers_by (method_at p fr.method) answers) [
              | inl alone ↦ made_owned own typed it.0 it.1 it.2 alone
              | inr opens ↦ lent_owned own typed it.0 it.1 it.2 c (whole_this p ac forms h links owned fr mine st old frs targets have unready gives (λ u owner. renewed u) covered single opens n f (ran p ac k fr st i s here resets after old frs refl refl n room f beside)
                  (running_method p ac fr st).1 declared c type full typed it.0 it.1 o before.0 it.2 before.1 wide)
            ] in
            let truth = owned_true p h stack contents have it.0 f o before.0 before.1 wide mine' s.pos declared.field c declared.at type in (
              it.0,
              it.1,
              keeps o before.0 y it.0 f before.1 at (truth.finished, wide) mine' it.1 ∙ mine',
              record { finished = truth.finished; class = truth.class; bounded = truth.bounded; need = truth.need; called = truth.called },
            )

    of_no_class : is_class_type declared.field.vtype ≡ false → ⊥
    of_no_class none =
        true≢false (sym wide ∙ texts (field_of p h fr.locals.this f) o before.0
        (field_of_none (is_text p h) p h fr.locals.this f stored (subst (λ (x : Option Field). NoObject (operand_types.type_of_field x)) (sym declared.at) none)) in_field before.1)

    by_type : (t : VType) → declared.field.vtype ≡ t → Born (places.Field n) o y
    by_type (types.Obj c) type = of_class c type
    by_type (types.Primitive u) type = absurd (of_no_class (ap is_class_type type))
    by_type types.Str type = absurd (of_no_class (ap is_class_type type))
    by_type (types.Arr u) type = absurd (of_no_class (ap is_class_type type))
    by_type types.NullType type = absurd (of_no_class (ap is_class_type type))

  -- what a step that creates the obligation of `this` anew leaves out is born anew
  pub left_out_bears : (q : Place) (o : ℕ) (y : Object) → IsSmall q → (is_reset_of_this p s.action ≡ true) × (is_part q ≡ true) → root_of k (place_value p k fr.method after.locals q) ≡ Some o → object_at k o ≡ Some y
      → is_heavy_class p y.class ≡ true → OwesOrHolds p k o y → Born q o y
  left_out_bears (places.Var j) o y small out root at heavy owes = absurd (true≢false (sym out.1))
  left_out_bears (places.Temp d) o y small out root at heavy owes = absurd (true≢false (sym out.1))
  left_out_bears places.This o y small out root at heavy owes = absurd (true≢false (sym out.1))
  left_out_bears places.Super o y small out root at heavy owes = absurd (let never : None ≡ Some o = root in cc)
  left_out_bears (places.Field n) o y small out root at heavy owes = go (owning_field_beside p fr.method n) refl
    where
      go : (x : Option FieldId) → owning_field_beside p fr.method n ≡ x → Born (places.Field n) o y
      go None e = absurd (let never : None ≡ Some o = sym (ap (λ (x : Option FieldId). root_of k (field_place_value p k fr.locals.this x)) e) ∙ root in cc)
      go (Some f) e = by_type out.0 n small f e o y root at heavy owes (declared out.0 n small f e o y root at heavy owes).field.vtype refl
