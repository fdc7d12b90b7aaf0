-- A constructor with an aliased argument stores that argument alone, and as it ends normally an owning field of `this` holds it.
use Rattle.std.proofs.Common.{◌≡◌, inl, inr, ℕ, zero, suc, ◌+◌, ◌<◌, Bool, true, false, true≢false, not, ◌&&◌, ◌||◌, nat_eq, eq-eqb, arith, Option, Some, None, List, slice_get, refl, sym, ap, ◌∙◌, subst, if◌then◌else◌}
use Rattle.std.specs.FinSet as set
use Rattle.std.proofs.lemmas.Bool.{and_parts, and_from, or_right}
use Rattle.program_model.specs.declared.kinds.BodyId.{BodyId}
use Rattle.program_model.specs.declared.kinds.ClassId.{ClassId}
use Rattle.program_model.specs.declared.kinds.FieldId.{FieldId}
use Rattle.program_model.specs.declared.kinds.VType.{VType}
use Rattle.program_model.specs.declared.program.Field.{Field}
use Rattle.program_model.specs.declared.program.Method.{Method}
use Rattle.program_model.specs.declared.program.Program.{Program}
use Rattle.program_model.specs.Lookups.{field_at, method_at}
use Rattle.ledger_obligations.specs.Bodies.{alias_position, constructs, is_alias_constructor, is_class_of, is_constructor}
use Rattle.ledger_obligations.specs.MustCallSets.{fits_type, is_heavy_class, must_of, must_of_optional, must_of_type}
use Rattle.ownership_rules.specs.Signatures.{is_present, type_at, type_of_field}
use Rattle.java_control.specs.Control.{Step}
use Rattle.java_control.specs.Owned.{field_number, place_of_field}
use Rattle.control_actions.specs.declared.action.Action.{Action}
use Rattle.control_actions.specs.declared.action.Action.TheVariants as actions
use Rattle.control_actions.specs.declared.action.Completion.{Completion}
use Rattle.control_actions.specs.declared.action.Completion.TheVariants as completions
use Rattle.control_actions.specs.declared.fact.Fact.{Fact}
use Rattle.control_actions.specs.declared.fact.Origin.{Origin}
use Rattle.control_actions.specs.declared.fact.Outcome.TheVariants.{Fault}
use Rattle.control_actions.specs.declared.fact.Rule.TheVariants as rules
use Rattle.control_actions.specs.declared.place.Place.TheVariants as places
use Rattle.ownership_rules.specs.Facts.{PlaceSet, has, has_field, has_field_from, is_origin_at, missing, owes}
use Rattle.ownership_rules.specs.SmallActions.{IsSmallAction}
use Rattle.value_laws.specs.Promises.{broken_promise}
use Rattle.value_laws.specs.OwningFieldsStores.{is_heavy_store}
use Rattle.ownership_rules.specs.MovesAtReturns.{moved_at_return}
use Rattle.ownership_rules.specs.declared.moved.Moved.{Moved}
use Rattle.ownership_rules.specs.declared.moved.Moved.TheVariants as moves
use Rattle.value_laws.specs.Ends.{after_return, alias_never_returned, constructor_throws, exit_rule, is_throw, left_at_end, promise_at_end}
use Rattle.value_laws.specs.Flow.{flow}
use Rattle.value_laws.specs.Paths.{Reach, move_of, relation_of}
use Rattle.covering_laws.proofs.AliasedResets.{aliased_resets_nothing}
use Rattle.covering_laws.proofs.SaidFacts.{ends_lend_nothing, no_lent_place, said_by}
use Rattle.value_laws.specs.Accept.{Accept}
use Rattle.ledger_state.specs.Contents.{HeapContents}
use Rattle.ledger_state.specs.Fields.{field_of, field_value}
use Rattle.ledger_state.specs.Heaps.{object_at, root_of}
use Rattle.ledger_state.specs.Locals.{temp_value, variable_value}
use Rattle.ledger_state.specs.declared.object.Object.{Object}
use Rattle.ledger_state.specs.declared.value.Value.{Value}
use Rattle.ledger_state.specs.declared.value.Value.TheVariants as values
use Rattle.value_laws.specs.Places.{field_place_value, owning_field_beside}
use Rattle.value_laws.specs.Configuration.{Frame}
use Rattle.value_laws.specs.Choosing.{body_id, frame_steps}
use Rattle.value_laws.specs.Agreement.{Stands}
use Rattle.value_laws.specs.PlainForms.{HasPlainForms, StoresPlainly}
use Rattle.value_laws.specs.PlaceFacts.{Covers, IsCovered, fits_in, gives_none, is_heavy_in, OwesOrHolds, renews_none}
use Rattle.value_laws.proofs.SetLaws.{has_copied}
use Rattle.value_laws.specs.Outcomes.{IsFault}
use Rattle.value_laws.specs.FactGoing.{left, taken}
use Rattle.value_laws.proofs.FieldPlaces.{IsBeside, place_of_beside}
use Rattle.value_laws.specs.Typed.{GivesResult, NamesMembers}
use Rattle.value_laws.proofs.Reached.{typed_step}
use Rattle.value_laws.proofs.KeptFacts.{held_is_argument, this_stays}
use Rattle.value_laws.proofs.FactOrigins.{parameters_own}
use Rattle.covering_laws.proofs.Following.{breaks_nothing, method_here, same_body, step_there}
use Rattle.covering_laws.proofs.HeavyFields.{HasPlace}
use Rattle.covering_laws.proofs.HeavyFields as fields
use Rattle.covering_laws.proofs.Storing as stores
use Rattle.covering_laws.proofs.Constructors.{aliased, gives_nothing, heavy_here, in_body, parameter_holds, reached, spoken, type_here, variable_small}

-- the set has one of n places of fields from number k on
some_field : (held : PlaceSet) (k n : ℕ) → has_field_from held k n ≡ true → (j : ℕ) × (j < k + n) × (has held (places.Field j) ≡ true)
unfolding has_field_from
some_field held k zero is = absurd (true≢false (sym is))
some_field held k (suc n) is = go (has held (places.Field k)) refl is (some_field held (k + 1) n)
  where
    go : (b : Bool) → has held (places.Field k) ≡ b → (b || has_field_from held (k + 1) n) ≡ true → (has_field_from held (k + 1) n ≡ true → (j : ℕ) × (j < k + 1 + n) × (has held (places.Field j) ≡ true))
        → (j : ℕ) × (j < k + suc n) × (has held (places.Field j) ≡ true)
    go true here one rest = (k, omega arith, here)
    go false here one rest = let found = rest one in let below = found.1 in (found.0, omega (arith, below), found.2)

-- an end without the aliased argument breaks a rule
left_breaks : (p : Program) (b : BodyId) (o : Origin) (c : Completion) (f : Fact) → alias_never_returned p b o c f ≡ true → IsFault (left_at_end p b o c f)
left_breaks p b o c f never = go (alias_never_returned p b o c f) never
  where
    go : (z : Bool) → z ≡ true → IsFault (if z then Fault rules.AliasKept (must_of p o.class) else (if owes o f then Fault (exit_rule c) (missing o f)
        else (if constructor_throws p b o c f then Fault rules.CtorThrow (missing o f) else promise_at_end (broken_promise p b o (actions.End c) f))))
    go true is = tt
    go false is = absurd (true≢false (sym is))

-- so a field has it
kept_by : (n g w c r : Bool) → n ≡ true → g ≡ true → w ≡ true → (n && g && w && not (c && r)) ≡ false → r ≡ true
kept_by n g w c true normal origin class is = refl
kept_by n g w true false normal origin class is = absurd (true≢false (sym (rw (normal, origin, class) refl) ∙ is))
kept_by n g w false false normal origin class is = absurd (true≢false (sym (rw (normal, origin, class) refl) ∙ is))

no_value : {X : Type 0} (x : X) → ◌≡◌ {A = Option X} None (Some x) → ⊥
no_value x is = cc

one_value : {X : Type 0} (x y : X) → ◌≡◌ {A = Option X} (Some x) (Some y) → x ≡ y
one_value x y is = cc

itself : (n : ℕ) → nat_eq n n ≡ true
itself n = eq-eqb n n refl

-- ---- a store

-- what a constructor with an aliased argument stores in a field whose type has an obligation is in a fact of that argument
module _ (p : Program) (ac : Accept p) (forms : HasPlainForms p) (h : HeapContents) (old : ℕ → Bool) (frs : List Frame) (fr : Frame) (st : Stands p fr) (covered : IsCovered p h gives_none renews_none old frs fr) (i d : ℕ) (s : Step) (f : FieldId) (o : ℕ) (x : Object)
    (here : slice_get (frame_steps p fr) i ≡ Some s) (is : s.action ≡ actions.PutOwn f d) (m : Method) (of : method_at p st.body.method ≡ Some m) (aliased' : is_alias_constructor p st.number ≡ true) (wide : is_heavy_in p (Some f) ≡ true)
    (root : root_of h (temp_value fr.locals d) ≡ Some o) (at : object_at h o ≡ Some x) (heavy : is_heavy_class p x.class ≡ true) (owes' : OwesOrHolds p h o x) where
  makes : constructs (method_at p fr.method) ≡ true
  makes = sym (ap constructs (method_here p fr st)) ∙ (and_parts (is_constructor p st.number) (is_present (alias_position p st.number)) aliased').0

  -- a constructor stores plainly
  plainly : StoresPlainly p (method_at p fr.method) f
  plainly = inl makes

  room : IsSmallAction p (actions.PutOwn f d)
  room = stores.small p ac forms h old frs fr st covered i d s f here is plainly

  mine : HasPlace p fr f
  mine = stores.there p ac forms h old frs fr st covered i d s f here is plainly

  stored : (c : Covers p h false false old frs fr o x) × (has c.fact.places (places.Temp d) ≡ true)
  stored = fields.covered_at p h false false old frs fr (places.Temp d) o x (covered (places.Temp d) o x room.0 refl root at heavy owes')

  abbrev cover : Covers p h false false old frs fr o x
  cover = stored.0

  reached_there : Reach p st.number (relation_of p st.number) cover.origin fr.control cover.fact
  reached_there = subst (λ (b : BodyId). Reach p b (relation_of p b) cover.origin fr.control cover.fact) (same_body cover.body st.number (body_id p fr.method) cover.id st.id) cover.reached

  joins : has (stores.now p ac forms h old frs fr st covered i d s f here is plainly o x cover) (place_of_field p f) ≡ true
  joins = has_copied cover.fact.places (place_of_field p f) (places.Temp d) (place_of_field p f) room.1 room.1 ∙ rw (itself (field_number p f)) stored.1

  of_argument : is_origin_at cover.origin.kind (alias_position p st.number) ≡ true
  of_argument = by (stores.goes p ac forms h old frs fr st covered i d s f here is plainly o x cover (place_of_field p f) joins)
    where
      held_already : (b : Bool) → has cover.fact.places (place_of_field p f) ≡ b → (has cover.fact.places (place_of_field p f) ≡ false → is_heavy_store p cover.origin f ≡ false) → is_origin_at cover.origin.kind (alias_position p st.number) ≡ true
      held_already true in' light =
          let owned = cover.held (field_number p f) mine.small in' (fields.heavy_here p h fr f mine wide) in
          held_is_argument p ac st.number st.body m st.at of aliased' (λ k n t comes there. aliased_resets_nothing p ac st.number n t comes there aliased') cover.origin fr.control cover.fact reached_there owned.0
      held_already false out light = absurd (true≢false (sym (or_right (is_heavy_class p cover.origin.class) (is_heavy_in p (Some f)) wide) ∙ light out))

      by : (g : Fact) × Reach p st.number (relation_of p st.number) cover.origin s.to g × stores.Goes p ac forms h old frs fr st covered i d s f here is plainly o x cover g → is_origin_at cover.origin.kind (alias_position p st.number) ≡ true
      by (g, reach, (same, taken reset called full t)) = t.alias aliased'
      by (g, reach, (same, left reset called full l)) = held_already (has cover.fact.places (place_of_field p f)) refl (l.light stored.1)

  -- where that is `this`, it is the object of `this`
  of_this : alias_position p st.number ≡ Some 0 → root_of h fr.locals.this ≡ Some o
  of_this alias = cover.places (said_by p frs fr cover.fact (inr (inl makes))) places.This tt refl (this_stays p ac st.number st.body m st.at of cover.origin fr.control cover.fact reached_there (ap (is_origin_at cover.origin.kind) (sym alias) ∙ of_argument))

module _ (p : Program) (ac : Accept p) (h : HeapContents) (old : ℕ → Bool) (frs : List Frame) (fr : Frame) (st : Stands p fr) (covered : IsCovered p h gives_none renews_none old frs fr) (i : ℕ) (s : Step) (v o : ℕ) (x : Object) (m : Method) (named : method_at p fr.method ≡ Some m)
    (here : slice_get (frame_steps p fr) i ≡ Some s) (makes : constructs (method_at p fr.method) ≡ true) (alias : alias_position p st.number ≡ Some (suc v)) (at : object_at h o ≡ Some x)
    (heavy : is_heavy_class p x.class ≡ true) (owes' : OwesOrHolds p h o x) where
  stored_argument : HasPlainForms p → (d : ℕ) (f : FieldId) → s.action ≡ actions.PutOwn f d → is_heavy_in p (Some f) ≡ true → root_of h (temp_value fr.locals d) ≡ Some o → root_of h (variable_value fr.locals v) ≡ Some o
  stored_argument forms d f is wide root =
      parameter_holds p ac fr st m named v makes alias h old frs o x (cover p ac forms h old frs fr st covered i d s f o x here is m (in_body p ac fr st m named v makes alias) (aliased p ac fr st m named v makes alias) wide root at heavy owes')
      (of_argument p ac forms h old frs fr st covered i d s f o x here is m (in_body p ac fr st m named v makes alias) (aliased p ac fr st m named v makes alias) wide root at heavy owes')

  -- ---- a normal end

  module _ (q : Completion) (is : s.action ≡ actions.End q) (normal : is_throw q ≡ false) (root : root_of h (variable_value fr.locals v) ≡ Some o) where
    found : (c : Covers p h false false old frs fr o x) × (has c.fact.places (places.Var v) ≡ true)
    found = fields.covered_at p h false false old frs fr (places.Var v) o x (covered (places.Var v) o x (variable_small p ac fr st m named v makes alias) refl root at heavy owes')

    abbrev c : Covers p h false false old frs fr o x
    c = found.0

    way : Reach p st.number (relation_of p st.number) c.origin fr.control c.fact
    way = reached p ac fr st m named v makes alias h old frs o x c

    own : is_origin_at c.origin.kind (Some (v + 1)) ≡ true
    own = parameters_own p ac st.number st.body m v st.at (in_body p ac fr st m named v makes alias) (spoken p ac fr st m named v makes alias) c.origin fr.control c.fact way found.1

    class : is_heavy_class p c.origin.class ≡ true
    class = heavy_here p ac fr st m named v makes alias h old frs o x c own

    -- a constructor returns no value
    stays : moved_at_return p st.number c.origin (actions.End q) c.fact ≡ moves.Stays
    stays = by q refl
      where
        by : (r : Completion) → q ≡ r → moved_at_return p st.number c.origin (actions.End r) c.fact ≡ moves.Stays
        by (completions.Break pos) end' = refl
        by (completions.ReturnValue d pos) end' =
            let step = typed_step p ac.well_formed.valid.typed st.number st.body fr.control i (move_of s) st.at st.control (step_there p fr st i s here) in
            let g : GivesResult p st.body (completions.ReturnValue d pos) = subst (GivesResult p st.body) end' (subst (NamesMembers p st.body) is step.1) in
            let same : g.0 ≡ m = one_value g.0 m (sym g.1 ∙ in_body p ac fr st m named v makes alias) in
            absurd (no_value g.2 (sym (gives_nothing p ac fr st m named v makes alias) ∙ ap (λ (z : Method). z.sig.result) (sym same) ∙ g.3))
        by (completions.Continue pos) end' = refl
        by (completions.Return pos) end' = refl
        by (completions.Throw d e pos) end' = refl

    fine : IsFault (left_at_end p st.number c.origin q c.fact) → ⊥
    fine fault = breaks_nothing p ac st.number c.origin i (move_of s) c.fact way (step_there p fr st i s here)
        (subst (λ (a : Action). IsFault (flow p st.number c.origin a s.edge c.fact)) (sym is) (subst (λ (z : Moved). IsFault (after_return p st.number c.origin q c.fact z)) (sym stays) fault))

    in_field : has_field c.fact.places ≡ true
    in_field = by (alias_never_returned p st.number c.origin q c.fact) refl
      where
        by : (b : Bool) → alias_never_returned p st.number c.origin q c.fact ≡ b → has_field c.fact.places ≡ true
        by true never = absurd (fine (left_breaks p st.number c.origin q c.fact never))
        by false kept = kept_by (not (is_throw q)) (is_origin_at c.origin.kind (alias_position p st.number)) (is_heavy_class p c.origin.class) (is_constructor p st.number) (has_field c.fact.places)
            (ap not normal) (ap (is_origin_at c.origin.kind) (alias ∙ ap Some (let next : suc v ≡ v + 1 = omega arith in next)) ∙ own) class kept

    number : (j : ℕ) × (j < 16) × (has c.fact.places (places.Field j) ≡ true)
    number = some_field c.fact.places 0 16 in_field

    rooted : root_of h (field_place_value p h fr.locals.this (owning_field_beside p fr.method number.0)) ≡ Some o
    rooted = c.places (said_by p frs fr c.fact (inr (inl makes))) (places.Field number.0) number.1 (no_lent_place p fr (ends_lend_nothing p fr st i s q here is) (places.Field number.0)) number.2

    beside : (f : FieldId) × (owning_field_beside p fr.method number.0 ≡ Some f)
    beside = go (owning_field_beside p fr.method number.0) refl
      where
        go : (f : Option FieldId) → owning_field_beside p fr.method number.0 ≡ f → (g : FieldId) × (owning_field_beside p fr.method number.0 ≡ Some g)
        go None none = absurd (no_value o (sym (ap (λ (g : Option FieldId). root_of h (field_place_value p h fr.locals.this g)) none) ∙ rooted))
        go (Some f) there = (f, there)

    abbrev field : FieldId
    field = beside.0

    stands : IsBeside p m number.0 field
    stands = place_of_beside p ac.well_formed.valid.typed fr.method m number.0 field named number.1 beside.1

    fits : set.is_subset (must_of_optional p (type_at m.sig (suc v))) (must_of_type p stands.field.vtype) ≡ true
    fits =
        ap (λ (t : Option VType). set.is_subset (must_of_optional p t) (must_of_type p stands.field.vtype)) (type_here p ac fr st m named v makes alias h old frs o x c own)
        ∙ subst (λ (y : Option Field). fits_type p c.origin.class (type_of_field y) ≡ true) stands.at
        (subst (λ (g : Option FieldId). fits_in p c.origin.class g ≡ true) beside.1 (c.fields number.0 number.1 class number.2))

    kept_argument : (w : ℕ) → fr.locals.this ≡ values.Object w
        → (f : FieldId) × (y : Field) × (field_at p f ≡ Some y) × (y.owning ≡ true) × (is_class_of y.class (method_at p fr.method) ≡ true)
        × (set.is_subset (must_of_optional p (type_at m.sig (suc v))) (must_of_type p y.vtype) ≡ true) × (root_of h (field_value p h w f) ≡ Some o)
    kept_argument w this = (
      field,
      stands.field,
      stands.at,
      stands.owning,
      in_class,
      fits,
      sym (ap (λ (g : Option FieldId). root_of h (field_place_value p h fr.locals.this g)) beside.1 ∙ ap (λ (u : Value). root_of h (field_of p h u field)) this) ∙ rooted,
    )
      where
        in_class : is_class_of stands.field.class (method_at p fr.method) ≡ true
        in_class = ap (is_class_of stands.field.class) named ∙ eq-eqb stands.field.class.0 m.class.0 (ap (λ (k : ClassId). k.0) stands.class)

-- ---- the laws

makes_some : (m : Option Method) → constructs m ≡ true → (x : Method) × (m ≡ Some x)
makes_some None none = absurd (true≢false (sym none))
makes_some (Some x) is = (x, refl)

pub argument_alone : (p : Program) → Accept p → HasPlainForms p → (h : HeapContents) (old : ℕ → Bool) (frs : List Frame) (fr : Frame) → (st : Stands p fr) → IsCovered p h gives_none renews_none old frs fr → (i d : ℕ) (s : Step) (f : FieldId) (o : ℕ) (x : Object) (v : ℕ)
    → slice_get (frame_steps p fr) i ≡ Some s → s.action ≡ actions.PutOwn f d → constructs (method_at p fr.method) ≡ true → alias_position p st.number ≡ Some (suc v) → is_heavy_in p (Some f) ≡ true
    → root_of h (temp_value fr.locals d) ≡ Some o → object_at h o ≡ Some x → is_heavy_class p x.class ≡ true → OwesOrHolds p h o x → root_of h (variable_value fr.locals v) ≡ Some o
argument_alone p ac forms h old frs fr st covered i d s f o x v here is makes alias wide root at heavy owes' =
    let named = makes_some (method_at p fr.method) makes in
    stored_argument p ac h old frs fr st covered i s v o x named.0 named.1 here makes alias at heavy owes' forms d f is wide root

-- where the receiver is marked as aliased, only it is stored
pub this_alone : (p : Program) → Accept p → HasPlainForms p → (h : HeapContents) (old : ℕ → Bool) (frs : List Frame) (fr : Frame) → (st : Stands p fr) → IsCovered p h gives_none renews_none old frs fr → (i d : ℕ) (s : Step) (f : FieldId) (o : ℕ) (x : Object)
    → slice_get (frame_steps p fr) i ≡ Some s → s.action ≡ actions.PutOwn f d → constructs (method_at p fr.method) ≡ true → alias_position p st.number ≡ Some 0 → is_heavy_in p (Some f) ≡ true
    → root_of h (temp_value fr.locals d) ≡ Some o → object_at h o ≡ Some x → is_heavy_class p x.class ≡ true → OwesOrHolds p h o x → root_of h fr.locals.this ≡ Some o
this_alone p ac forms h old frs fr st covered i d s f o x here is makes alias wide root at heavy owes' =
    let named = makes_some (method_at p fr.method) makes in
    of_this p ac forms h old frs fr st covered i d s f o x here is named.0 (ap (method_at p) st.method ∙ named.1)
    (and_from (is_constructor p st.number) (is_present (alias_position p st.number)) (ap constructs (method_here p fr st) ∙ makes) (ap is_present alias)) wide root at heavy owes' alias

pub field_holds : (p : Program) → Accept p → (h : HeapContents) (old : ℕ → Bool) (frs : List Frame) (fr : Frame) → (st : Stands p fr) → IsCovered p h gives_none renews_none old frs fr → (i : ℕ) (s : Step) (q : Completion) (v w o : ℕ) (x : Object) (m : Method)
    → slice_get (frame_steps p fr) i ≡ Some s → s.action ≡ actions.End q → is_throw q ≡ false → method_at p fr.method ≡ Some m → constructs (method_at p fr.method) ≡ true
    → alias_position p st.number ≡ Some (suc v) → fr.locals.this ≡ values.Object w → root_of h (variable_value fr.locals v) ≡ Some o → object_at h o ≡ Some x → is_heavy_class p x.class ≡ true → OwesOrHolds p h o x
    → (f : FieldId) × (field : Field) × (field_at p f ≡ Some field) × (field.owning ≡ true) × (is_class_of field.class (method_at p fr.method) ≡ true)
    × (set.is_subset (must_of_optional p (type_at m.sig (suc v))) (must_of_type p field.vtype) ≡ true) × (root_of h (field_value p h w f) ≡ Some o)
field_holds p ac h old frs fr st covered i s q v w o x m here is normal named makes alias this root at heavy owes' =
    kept_argument p ac h old frs fr st covered i s v o x m named here makes alias at heavy owes' q is normal root w this
