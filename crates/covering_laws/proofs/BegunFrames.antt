-- The frame of a call that begins: what its places hold is in facts of the body's entry.
use Rattle.std.proofs.Common.{◌≡◌, inl, inr, ℕ, zero, suc, ◌+◌, Bool, true, Option, Some, None, List, [], ◌∷◌, ◌++◌, slice_get, refl, sym, ap, ◌∙◌, subst, arith, false, not, ◌&&◌, true≢false}
use Rattle.program_model.specs.declared.kinds.ClassId.{ClassId}
use Rattle.program_model.specs.declared.kinds.VType.{VType}
use Rattle.program_model.specs.declared.kinds.VType.TheVariants as types
use Rattle.program_model.specs.declared.program.ParamSig.{ParamSig}
use Rattle.program_model.specs.declared.program.Program.{Program}
use Rattle.program_model.specs.declared.program.Sig.{Sig}
use Rattle.program_model.specs.declared.tree.Body.{Body}
use Rattle.program_model.specs.declared.tree.Var.{Var}
use Rattle.std.specs.FinSet as set
use Rattle.program_model.specs.Lookups.{optional, variable_at, method_at}
use Rattle.ledger_obligations.specs.MustCallSets.{Names, is_heavy_class, is_empty, must_of_type, no_names}
use Rattle.java_control.specs.Control.{start_of}
use Rattle.java_control.specs.PlaceNumbers.{IsSmall}
use Rattle.java_control.specs.Remaining.{Todo}
use Rattle.control_actions.specs.declared.fact.Fact.{Fact}
use Rattle.control_actions.specs.declared.fact.Mode.{Mode}
use Rattle.control_actions.specs.declared.fact.Mode.TheVariants as modes
use Rattle.control_actions.specs.declared.fact.Origin.{Origin}
use Rattle.control_actions.specs.declared.fact.OriginKind.TheVariants as kinds
use Rattle.control_actions.specs.declared.place.Place.{Place}
use Rattle.control_actions.specs.declared.place.Place.TheVariants as places
use Rattle.ownership_rules.specs.Births.{births_at_entry, fact_at, origin_of, parameter_birth, parameter_births, parameter_mode}
use Rattle.value_laws.specs.Paths.{Reach, entered, relation_of}
use Rattle.ledger_state.specs.Contents.{HeapContents}
use Rattle.ledger_state.specs.Heaps.{root_of}
use Rattle.ledger_state.specs.declared.object.Object.{Object}
use Rattle.ledger_state.specs.declared.value.Value.TheVariants as values
use Rattle.value_laws.specs.Places.{place_value}
use Rattle.value_laws.specs.Configuration.{Frame}
use Rattle.value_laws.proofs.PlaceLaws.{single_place-alone}
use Rattle.value_laws.specs.Agreement.{Stands}
use Rattle.value_laws.specs.PlainForms.{is_lent_parameter}
use Rattle.value_laws.specs.PlaceFacts.{Covers, IsInField, IsTrueOf, asked_of, claims, fits_field, is_heavy_field, is_lent, is_owning_fact}
use Rattle.covering_laws.proofs.HeavyFields.{tells_by}
use Rattle.covering_laws.proofs.Births.{at_itself, at_one}
use Rattle.rlc_base.proofs.SetLaws.{empty_within, within_trans, within_union_left}
use Rattle.ownership_rules.specs.Facts.{has, is_held, is_own, is_this_origin}
use Rattle.std.specs.Prelude.{◌||◌, if◌then◌else◌}
use Rattle.ledger_obligations.specs.Bodies.{constructs}
use Rattle.value_laws.specs.Renewing.{HasOwningField, IsLentFrom, answers_for_fields, lends_this, reopens}

pub not_own : (a b : Bool) → (a || b) ≡ false → a ≡ false
not_own true b is = is
not_own false b is = refl

pub not_held : (a b : Bool) → (a || b) ≡ false → b ≡ false
not_held true b is = absurd (true≢false is)
not_held false b is = is

-- ---- lent parameters

pub not_back : (b : Bool) → not b ≡ true → b ≡ false
not_back true is = absurd (true≢false (sym is))
not_back false is = refl

pub not_and : (a b : Bool) → b ≡ false → (a && b) ≡ false
not_and true b is = is
not_and false b is = refl

pub lent_or_none : (a b : Bool) → (is_own (if a then modes.Alias else (if b then modes.Lent else modes.None)) || is_held (if a then modes.Alias else (if b then modes.Lent else modes.None))) ≡ false
lent_or_none true b = refl
lent_or_none false true = refl
lent_or_none false false = refl

-- a fact of a lent parameter does not say that the frame owns an object with an obligation
pub lent_unowned : (p : Program) (s : Sig) (k : ℕ) (x : ParamSig) (c : ClassId) → x.vtype ≡ types.Obj c → is_lent_parameter p (Some x) ≡ true → (is_heavy_class p c && is_own (parameter_mode s k x)) ≡ false
lent_unowned p s k x c type lent = by x.owning refl
  where
    by : (b : Bool) → x.owning ≡ b → (is_heavy_class p c && is_own (parameter_mode s k x)) ≡ false
    by true owning =
        let light : is_heavy_class p c ≡ false =
        ap (λ (t : VType). not (is_empty (must_of_type p t))) (sym type) ∙ not_back (not (is_empty (must_of_type p x.vtype))) (ap (λ (b : Bool). not (b && not (is_empty (must_of_type p x.vtype)))) (sym owning) ∙ lent) in
        ap (λ (b : Bool). b && is_own (parameter_mode s k x)) light
    by false other = not_and (is_heavy_class p c) (is_own (parameter_mode s k x)) (rw other (not_own _ _ (lent_or_none _ _)))

module _ (p : Program) (k : HeapContents) (fr : Frame) (st : Stands p fr) (starts : fr.control ≡ start_of p st.number) (old : ℕ → Bool) (frs : List Frame) where
  -- A place is covered by its birth at the entry. What is born as lent is so from a frame below, and none that the frame makes, where it is not finished and its class has owning fields. Of what is lent to the frame, or a field of `this` holds,
  -- the names that its fact knows are asked for. The place of an owning field is born as
  -- held, and its class has an obligation where the field's type has one.
  pub entered_covers : (q : Place) (o : ℕ) (y : Object) (g : Origin) (mode : Mode) (names : Names) (full : Bool) (n : ℕ) → IsSmall q
      → slice_get (births_at_entry p st.number) n ≡ Some (g, fact_at q mode names full) → root_of k (place_value p k fr.method fr.locals q) ≡ Some o
      → (claims p (method_at p fr.method) g (fact_at q mode names full) ≡ true → (is_held mode && lends_this p fr) ≡ false → IsTrueOf p y g (fact_at q mode names full))
      → (is_lent p (method_at p fr.method) g.kind ≡ true
      → (is_owning_fact p g (fact_at q mode names full) ≡ false) × (is_held mode ≡ false) × (set.is_subset names (asked_of p (method_at p fr.method) g.kind) ≡ true)) → (is_held mode ≡ true → is_empty names ≡ true)
      → (y.finished ≡ true → is_held mode ≡ true → answers_for_fields (method_at p fr.method) ≡ true → lends_this p fr ≡ false → is_heavy_class p g.class ≡ true → IsInField p fr (fact_at q mode names full).places y.owner)
      → (mode ≡ modes.Lent → y.finished ≡ true → IsLentFrom p k frs o y.owner)
      → (constructs (method_at p fr.method) ≡ true → is_this_origin g.kind ≡ true → y.finished ≡ false)
      → (mode ≡ modes.Lent → (constructs (method_at p fr.method) && is_this_origin g.kind) ≡ false → HasOwningField p y.class → y.finished ≡ false
      → IsLentFrom p k frs o y.owner × (constructs (method_at p fr.method) ≡ true → fr.locals.this ≡ values.Object o → ⊥))
      → ((j : ℕ) → q ≡ places.Field j → is_heavy_class p g.class ≡ true → fits_field p fr.method j g.class ≡ true)
      → ((j : ℕ) → q ≡ places.Field j → is_heavy_field p fr.method q ≡ true → (mode ≡ modes.Held) × (is_heavy_class p g.class ≡ true))
      → (reopens (method_at p fr.method) ≡ false → (j : ℕ) → q ≡ places.Field j → mode ≡ modes.Held)
      → (c : Covers p k false false old frs fr o y) × (has c.fact.places q ≡ true) × (c.origin ≡ g) × (c.fact ≡ fact_at q mode names full)
  entered_covers q o y g mode names full n small birth root truth lent' none in_field lends makes begun wide held field =
      let covers : Covers p k false false old frs fr o y = record {
        body = st.number;
        id = st.id;
        origin = g;
        fact = fact_at q mode names full;
        reached = subst (λ (t : List Todo). Reach p st.number (relation_of p st.number) g t (fact_at q mode names full)) (sym starts) (entered n birth);
        alone = single_place-alone q small;
        places = λ said z small' keeps is. subst (λ (u : Place). root_of k (place_value p k fr.method fr.locals u) ≡ Some o) (at_one q small mode names full z small' is) root;
        true' = λ claimed mine kept. truth claimed kept;
        free = λ done held' answers keeps heavy. (refl, in_field done held' answers keeps heavy);
        lent = λ lent. (let is = lent' lent in (is.0, λ held'. absurd (true≢false (sym held' ∙ is.1))));
        lends = λ lent done. (refl, lends lent done);
        makes = makes;
        begun = λ lent other fields open'. (let is = begun lent other fields open' in (refl, is.0, is.1));
        unrenewed = λ done tells apart. refl;
        known = λ done tells apart stays.
            elim (tells_by p fr.method g (fact_at q mode names full) tells) [
              | inl lent ↦ within_trans names (asked_of p (method_at p fr.method) g.kind) (set.union (asked_of p (method_at p fr.method) g.kind) y.called) (lent' lent).2 (within_union_left (asked_of p (method_at p fr.method) g.kind) y.called)
              | inr held' ↦ within_trans names no_names (set.union (asked_of p (method_at p fr.method) g.kind) y.called) (none held') (empty_within (set.union (asked_of p (method_at p fr.method) g.kind) y.called))
            ];
        fields = λ j inside heavy is. wide j (at_one q small mode names full (places.Field j) inside is) heavy;
        held = λ j inside is heavy.
            let same : q ≡ places.Field j = at_one q small mode names full (places.Field j) inside is in
            held j same (subst (λ (u : Place). is_heavy_field p fr.method u ≡ true) (sym same) heavy);
        outside = λ plain other j inside is. field other j (at_one q small mode names full (places.Field j) inside is);
      } in
      (covers, at_itself q small mode names full, refl, refl)

-- ---- the parameters

-- an element behind an optional one
behind : {X : Type 0} (x : Option X) (xs : List X) (i : ℕ) (y : X) → slice_get xs i ≡ Some y → (n : ℕ) × (slice_get (optional x ++ xs) n ≡ Some y)
behind None xs i y is = (i, is)
behind (Some x) xs i y is = (suc i, is)

-- the birth of a parameter of a class type
abbrev pub IsParameterBirth : Program → Sig → ℕ → Var → ClassId → ParamSig → Option (Origin × Fact) → Type 0
IsParameterBirth p s k v c x birth = birth ≡ Some (origin_of p (kinds.Param k) v.pos c None, fact_at (places.Var k) (parameter_mode s (k + 1) x) x.before true)

first_birth : (p : Program) (b : Body) (s : Sig) (k : ℕ) (x : ParamSig) (v : Var) (c : ClassId) → variable_at b k ≡ Some v → x.vtype ≡ types.Obj c
    → IsParameterBirth p s k v c x (parameter_birth p s k x (variable_at b k))
first_birth p b s k x v c at type = rw (at, type) refl

pub parameter_born : (p : Program) (b : Body) (s : Sig) (k i m : ℕ) (params : List ParamSig) (x : ParamSig) (v : Var) (c : ClassId) → m ≡ k + i → slice_get params i ≡ Some x → variable_at b m ≡ Some v
    → x.vtype ≡ types.Obj c → (n : ℕ) × IsParameterBirth p s m v c x (slice_get (parameter_births p b s k params) n)
parameter_born p b s k i m [] x v c same at var type = absurd (let never : None ≡ Some x = at in cc)
parameter_born p b s k zero m (y ∷ ys) x v c same at var type =
    let here : k ≡ m = omega (arith, same) in
    let param : y ≡ x = (let both : Some y ≡ Some x = at in cc) in
    let born = first_birth p b s k y v c (ap (variable_at b) here ∙ var) (ap (λ (u : ParamSig). u.vtype) param ∙ type) in (
      0,
      subst (λ (j : ℕ). IsParameterBirth p s j v c x (slice_get (parameter_births p b s k (y ∷ ys)) 0)) here
          (subst (λ (u : ParamSig). IsParameterBirth p s k v c u (slice_get (parameter_births p b s k (y ∷ ys)) 0)) param
          (ap (λ (z : Option (Origin × Fact)). slice_get (optional z ++ parameter_births p b s (k + 1) ys) 0) born)),
    )
parameter_born p b s k (suc i) m (y ∷ ys) x v c same at var type =
    let rest = parameter_born p b s (k + 1) i m ys x v c (omega (arith, same)) at var type in
    behind (parameter_birth p s k y (variable_at b k)) (parameter_births p b s (k + 1) ys) rest.0
    (origin_of p (kinds.Param m) v.pos c None, fact_at (places.Var m) (parameter_mode s (m + 1) x) x.before true) rest.1
