-- The facts of `this` and of an aliased argument go with a method's body to its end: each is born at the entry, goes on along each step but where its object was found to be null, and is in no owning
-- field of `this`. So an aliased argument is the result of a normal end.
use Rattle.std.proofs.Common.{◌≡◌, inl, inr, ℕ, zero, suc, ◌+◌, ◌<◌, ◌≤◌, arith, eq-eqb, eqb-true, if◌then◌else◌, Bool, true, false, true≢false, not, ◌&&◌, ◌||◌, Option, Some, None, List, [], ◌∷◌, length, slice_get, IsSomeAnd, refl, sym, subst, ap, ◌∙◌}
use Rattle.std.proofs.lemmas.Bool.{and_from, and_parts, or_left, or_parts, or_right}
use Rattle.std.specs.FinSet as set
use Rattle.rlc_base.specs.declared.place.Pos.{Pos}
use Rattle.rlc_base.proofs.SetLaws.{within_self}
use Rattle.program_model.specs.declared.kinds.BodyId.{BodyId}
use Rattle.program_model.specs.declared.kinds.ClassId.{ClassId}
use Rattle.program_model.specs.declared.kinds.FieldId.{FieldId}
use Rattle.program_model.specs.declared.kinds.MethodKind.{MethodKind}
use Rattle.program_model.specs.declared.kinds.MethodKind.TheVariants as methods
use Rattle.program_model.specs.declared.kinds.VType.{VType}
use Rattle.program_model.specs.declared.kinds.VType.TheVariants as types
use Rattle.program_model.specs.declared.program.Method.{Method}
use Rattle.program_model.specs.declared.program.ParamSig.{ParamSig}
use Rattle.program_model.specs.declared.program.Program.{Program}
use Rattle.program_model.specs.declared.tree.Body.{Body}
use Rattle.program_model.specs.Lookups.{body_at, method_at}
use Rattle.program_model.specs.SuperTests.{is_class}
use Rattle.program_model.specs.Validity.{HasParameters, IfPosition, IsBodyOf, type_of_class}
use Rattle.java_control.specs.Calls.{completion_temp}
use Rattle.java_control.specs.Owned.{field_number, place_of_field}
use Rattle.java_control.specs.PlaceNumbers.{IsSmall, number_of}
use Rattle.java_control.specs.Remaining.{Todo}
use Rattle.java_control.specs.Sources.{is_place}
use Rattle.control_actions.specs.declared.action.Action.{Action}
use Rattle.control_actions.specs.declared.action.Action.TheVariants as actions
use Rattle.control_actions.specs.declared.action.Completion.{Completion}
use Rattle.control_actions.specs.declared.action.Completion.TheVariants as completions
use Rattle.control_actions.specs.declared.fact.Fact.{Fact}
use Rattle.control_actions.specs.declared.fact.Origin.{Origin}
use Rattle.control_actions.specs.declared.fact.OriginKind.{OriginKind}
use Rattle.control_actions.specs.declared.fact.OriginKind.TheVariants as kinds
use Rattle.control_actions.specs.declared.fact.Outcome.{Outcome}
use Rattle.control_actions.specs.declared.fact.Outcome.TheVariants.{Next, Gone, Fault}
use Rattle.control_actions.specs.declared.place.Place.{Place}
use Rattle.control_actions.specs.declared.place.Place.TheVariants as places
use Rattle.ownership_rules.specs.AliasCases.{calls_alias, gives_exception, has_bad_alias_form, has_owning_alias, has_unequal_sets, is_half_marked}
use Rattle.ownership_rules.specs.Assigned.{is_spoken_variable}
use Rattle.ownership_rules.specs.Births.{births_at_entry, fact_at, has_this, origin_of, parameter_mode, this_mode}
use Rattle.ownership_rules.specs.Bodies.{alias_in, alias_position, constructs, is_constructor, is_constructor_kind, is_instance_kind, method_in, method_of, resets_this}
use Rattle.ownership_rules.specs.Facts.{PlaceSet, are_position, has, has_field, is_origin_at, is_own, position_of}
use Rattle.ownership_rules.specs.MovesAtReturns.{heavy_result, moved_at_return, result_type, returned}
use Rattle.ownership_rules.specs.MustCallSets.{is_empty, is_heavy_as, is_heavy_class, must_of_optional, must_of_type, no_names}
use Rattle.ownership_rules.specs.Signatures.{is_owning_at, is_position, is_present, type_at, type_in}
use Rattle.ownership_rules.specs.SmallActions.{IsSmallAction, IsSmallTemp}
use Rattle.ownership_rules.specs.declared.moved.Moved.{Moved}
use Rattle.ownership_rules.specs.declared.moved.Moved.TheVariants as moves
use Rattle.fact_laws.specs.Accept.{Accept}
use Rattle.fact_laws.specs.Ends.{after_return, alias_never_returned, is_throw, left_at_end}
use Rattle.fact_laws.specs.Flow.{flow}
use Rattle.fact_laws.specs.Going.{ArePlaces, StoresAs, left, taken}
use Rattle.fact_laws.specs.Outcomes.{After, IsCallRow, IsFault, IsNotNull, IsPlainRow}
use Rattle.fact_laws.specs.OwningFieldsStores.{has_heavy_type, is_heavy_store, lacks_reset}
use Rattle.fact_laws.specs.Paths.{Comes, Move, Reach, born, entered, flowed, relation_of}
use Rattle.fact_laws.specs.PlaceRows.{copied, places_after}
use Rattle.fact_laws.specs.Positions.{argument_place, is_lasting}
use Rattle.agreement.specs.PlacePlaces.{SetsLocals}
use Rattle.agreement.specs.Typed.{MovesLocals}
use Rattle.fact_laws.proofs.AssignedReached.{spoken_stay, this_stay}
use Rattle.fact_laws.proofs.PlaceLaws.{no_other_place_joins, single_place-has, single_place-same}
use Rattle.agreement.proofs.Reached.{typed_step}
use Rattle.agreement.proofs.SetLaws.{without_within}
use Rattle.fact_laws.proofs.AliasFacts.{aliased_is_spoken, parameter_class, this_class, this_leaves, unset_leaves}
use Rattle.fact_laws.proofs.EntryFacts.{step_elsewhere}
use Rattle.fact_laws.proofs.KeptFacts.{own_position, parameter_stays, this_stays}
use Rattle.fact_laws.proofs.Origins.{comes, few, few_parameters}
use Rattle.fact_laws.proofs.Staying.{LeavesIt, places_still}
use Rattle.fact_laws.proofs.Storing.{stores}
use Rattle.frame_laws.proofs.AliasConducts.{argument_has_names, no_refusal}
use Rattle.frame_laws.proofs.Following.{breaks_nothing}
use Rattle.frame_laws.proofs.LastingBirths.{argument_alone, is_owning_argument, parameter_is_born, this_is_born}
use Rattle.frame_laws.proofs.LastingSteps.{GoesOn, RowOf, call, end, goes_on, goes_so, plain, row_of, store}

-- ---- words

position_is : (a : Option ℕ) (k : ℕ) → is_position a k ≡ true → a ≡ Some k
position_is None k is = absurd (true≢false (sym is))
position_is (Some j) k is = ap Some (eqb-true j k is)

kind_of_this : (kind : OriginKind) → is_origin_at kind (Some 0) ≡ true → kind ≡ kinds.ThisRef
kind_of_this (kinds.Param k) is = absurd (let same : k + 1 ≡ 0 = eqb-true (k + 1) 0 is in omega (arith, same))
kind_of_this kinds.ThisRef is = refl
kind_of_this kind is = absurd (true≢false (sym is))

position_there : (kind : OriginKind) (n : ℕ) → is_origin_at kind (Some n) ≡ true → position_of kind ≡ Some n
position_there (kinds.Param k) n is = ap Some (eqb-true (k + 1) n is)
position_there kinds.ThisRef n is = ap Some (eqb-true 0 n is)
position_there kind n is = absurd (true≢false (sym is))

-- an instance method has `this`, and is no constructor
instance_has_this : (kind : MethodKind) → is_instance_kind kind ≡ true → (has_this kind ≡ true) × (is_constructor_kind kind ≡ false)
instance_has_this methods.Instance is = (refl, refl)
instance_has_this methods.Ctor is = absurd (true≢false (sym is))
instance_has_this methods.Static is = absurd (true≢false (sym is))
instance_has_this methods.Constant is = absurd (true≢false (sym is))

next_position : (v : ℕ) → suc v ≡ v + 1
next_position v = omega arith

element_there : {X : Type 0} (xs : List X) (i : ℕ) → i < length xs → (y : X) × (slice_get xs i ≡ Some y)
element_there [] i inside = absurd (omega (arith, inside))
element_there (y ∷ xs) zero inside = (y, refl)
element_there (y ∷ xs) (suc i) inside = element_there xs i (omega (arith, inside))

-- a type with an obligation is that of a class
object_type : (p : Program) (t : VType) → is_empty (must_of_type p t) ≡ false → (c : ClassId) × (t ≡ types.Obj c)
object_type p (types.Obj c) some = (c, refl)
object_type p (types.Primitive k) some = absurd (true≢false (sym (within_self no_names) ∙ some))
object_type p types.Str some = absurd (true≢false (sym (within_self no_names) ∙ some))
object_type p (types.Arr k) some = absurd (true≢false (sym (within_self no_names) ∙ some))
object_type p types.NullType some = absurd (true≢false (sym (within_self no_names) ∙ some))

-- with an obligation, where the type of its objects has one
heavy_by_type : (p : Program) (t : Option VType) (c : ClassId) → t ≡ Some (types.Obj c) → is_empty (must_of_optional p t) ≡ false → is_heavy_class p c ≡ true
heavy_by_type p t c is some = ap not (ap (λ (u : Option VType). is_empty (must_of_optional p u)) (sym is) ∙ some)

heavy_by_class : (p : Program) (c : ClassId) (t : VType) → t ≡ type_of_class p c → is_empty (must_of_type p t) ≡ false → is_heavy_class p c ≡ true
heavy_by_class p c t is some = go (is_class c p.core.string) is
  where
    go : (y : Bool) → t ≡ (if y then types.Str else types.Obj c) → is_heavy_class p c ≡ true
    go true text = absurd (true≢false (sym (within_self no_names) ∙ ap (λ (u : VType). is_empty (must_of_type p u)) (sym text) ∙ some))
    go false object = ap not (ap (λ (u : VType). is_empty (must_of_type p u)) (sym object) ∙ some)

-- what stores into no owning field sets variables and temps alone
sets_locals : (a : Action) → MovesLocals a → ((g : FieldId) (d : ℕ) → a ≡ actions.PutOwn g d → ⊥) → SetsLocals a
sets_locals actions.Skip typed other = tt
sets_locals (actions.Copy x y) typed other = typed
sets_locals (actions.Move x y) typed other = typed.0
sets_locals (actions.PutOwn g d) typed other = other g d refl
sets_locals a typed other = tt

-- outside constructors `this` is stored where the field's type has an obligation
has_obligation : (t c r h : Bool) → (t && not (c || r && h)) ≡ false → t ≡ true → c ≡ false → h ≡ true
has_obligation true true r h is this made = absurd (true≢false made)
has_obligation true false true true is this made = refl
has_obligation true false true false is this made = absurd (true≢false is)
has_obligation true false false h is this made = absurd (true≢false is)
has_obligation false c r h is this made = absurd (true≢false (sym this))

-- no field is the place of an argument
no_field_place : (n j : ℕ) → is_place (argument_place n) (places.Field j) ≡ false
no_field_place zero j = refl
no_field_place (suc v) j = refl

-- a fact that moves as the result is in the result's temp
moved_there : (p : Program) (b : BodyId) (o : Origin) (d : ℕ) (f : Fact) → returned p b o d f ≡ moves.Moves → has f.places (places.Temp d) ≡ true
moved_there p b o d f moved = go (has f.places (places.Temp d)) (is_heavy_as p o.class (result_type p b)) refl moved
  where
    go : (y z : Bool) → has f.places (places.Temp d) ≡ y → (if y && z then heavy_result p b o f else moves.Stays) ≡ moves.Moves → has f.places (places.Temp d) ≡ true
    go true z is same = is
    go false z is same = absurd (let never : moves.Stays ≡ moves.Moves = same in cc)

-- an end without the aliased argument breaks a rule
left_breaks : (p : Program) (b : BodyId) (o : Origin) (c : Completion) (f : Fact) → alias_never_returned p b o c f ≡ true → IsFault (left_at_end p b o c f)
left_breaks p b o c f never = rw never tt

module _ (p : Program) (ac : Accept p) (b : BodyId) (x : Body) (m : Method) (at : body_at p b ≡ Some x) (of : method_at p x.method ≡ Some m) where
  of_body : method_of p b ≡ Some m
  of_body = ap (method_in p) at ∙ of

  made_by : is_constructor p b ≡ is_constructor_kind m.kind
  made_by = ap constructs of_body

  aliased_by : alias_position p b ≡ m.sig.alias
  aliased_by = ap alias_in of_body

  -- what is born by a step is of no position
  born_by_none : (n : ℕ) (kind : OriginKind) → position_of kind ≡ None → is_origin_at kind (Some n) ≡ true → ⊥
  born_by_none n kind none origin = true≢false (sym origin ∙ ap (λ (z : Option ℕ). are_position z (Some n)) none)

  -- ---- an aliased argument

  -- it is a parameter, or `this`
  inside : (k : ℕ) → m.sig.alias ≡ Some k → k ≤ length m.sig.params.items
  inside k alias = subst (λ (a : Option ℕ). IfPosition m.sig a) alias (ac.well_formed.valid.typed.methods x.method m of).signature.alias

  some_names : (k : ℕ) → m.sig.alias ≡ Some k → is_empty (must_of_optional p (type_at m.sig k)) ≡ false
  some_names k alias = argument_has_names p ac.well_formed x.method m of k alias

  not_owning : (k : ℕ) → m.sig.alias ≡ Some k → is_owning_at m.sig k ≡ false
  not_owning k alias =
      let form = or_parts (has_bad_alias_form p m) (gives_exception p m) (no_refusal p ac.well_formed x.method m of k alias) in
      let three = or_parts (is_half_marked m || has_unequal_sets p m m.sig.alias || has_owning_alias m m.sig.alias) (calls_alias p m) form.0 in
      ap (has_owning_alias m) (sym alias) ∙ (or_parts (is_half_marked m || has_unequal_sets p m m.sig.alias) (has_owning_alias m m.sig.alias) three.0).1

  parameter_there : (v : ℕ) → m.sig.alias ≡ Some (suc v) → (q : ParamSig) × (slice_get m.sig.params.items v ≡ Some q)
  parameter_there v alias = element_there m.sig.params.items v (let within = inside (suc v) alias in omega (arith, within))

  spoken : (v : ℕ) → m.sig.alias ≡ Some (suc v) → is_spoken_variable m v ≡ true
  spoken v alias = aliased_is_spoken m v alias (inside (suc v) alias)

  has_parameters : HasParameters x.vars.items m.sig.params.items
  has_parameters = (subst (λ (y : Option Method). IsSomeAnd y (IsBodyOf b x)) of (ac.well_formed.valid.typed.bodies b x at).method).1

  variable_inside : (v : ℕ) → m.sig.alias ≡ Some (suc v) → v < length x.vars.items
  variable_inside v alias =
      let fit : length m.sig.params.items ≤ length x.vars.items = few_parameters x.vars.items m.sig.params.items has_parameters in
      let within = inside (suc v) alias in
      omega (arith, fit, within)

  variable_small : (v : ℕ) → m.sig.alias ≡ Some (suc v) → v < 160
  variable_small v alias =
      let room : length x.vars.items ≤ 160 = few p ac b x at in
      let within = variable_inside v alias in
      omega (arith, room, within)

  -- the class of its fact has an obligation
  class_heavy : (k : ℕ) → m.sig.alias ≡ Some k → (o : Origin) (c : List Todo) (f : Fact) → Reach p b (relation_of p b) o c f → is_origin_at o.kind (Some k) ≡ true → is_heavy_class p o.class ≡ true
  class_heavy zero alias o c f reach origin =
      ap (is_heavy_class p) (this_class p ac b x m at of o c f reach (kind_of_this o.kind origin))
      ∙ heavy_by_class p m.class m.sig.receiver.vtype (ac.well_formed.valid.typed.methods x.method m of).receiver (some_names 0 alias)
  class_heavy (suc v) alias o c f reach origin =
      let q = parameter_there v alias in
      let kind : o.kind ≡ kinds.Param v = own_position v o.kind (ap (λ (n : ℕ). is_origin_at o.kind (Some n)) (sym (next_position v)) ∙ origin) in
      heavy_by_type p (type_at m.sig (suc v)) o.class (ap type_in q.1 ∙ ap Some (parameter_class p ac b x m v q.0 at of q.1 o c f reach kind)) (some_names (suc v) alias)

  -- ---- facts that last

  alias_there : (v : ℕ) → is_lasting (Some m) (suc v) ≡ true → (is_constructor_kind m.kind ≡ false) × (m.sig.alias ≡ Some (suc v))
  alias_there v lasting =
      let parts = and_parts (not (is_constructor_kind m.kind)) (is_position m.sig.alias (suc v)) lasting in
      (other (is_constructor_kind m.kind) parts.0, position_is m.sig.alias (suc v) parts.1)
    where
      other : (y : Bool) → not y ≡ true → y ≡ false
      other true is = absurd (true≢false (sym is))
      other false is = refl

  -- its body is none of a constructor
  makes_nothing : (n : ℕ) → is_lasting (Some m) n ≡ true → is_constructor p b ≡ false
  makes_nothing zero lasting = made_by ∙ (instance_has_this m.kind lasting).1
  makes_nothing (suc v) lasting = made_by ∙ (alias_there v lasting).0

  stays_there : (n : ℕ) → is_lasting (Some m) n ≡ true → (o : Origin) (k : List Todo) (f : Fact) → Reach p b (relation_of p b) o k f → is_origin_at o.kind (Some n) ≡ true → has f.places (argument_place n) ≡ true
  stays_there zero lasting o k f reach origin = this_stays p ac b x m at of o k f reach origin
  stays_there (suc v) lasting o k f reach origin =
      parameter_stays p ac b x m v at of (spoken v (alias_there v lasting).1) o k f reach (ap (λ (n : ℕ). is_origin_at o.kind (Some n)) (sym (next_position v)) ∙ origin)

  place_small : (n : ℕ) → is_lasting (Some m) n ≡ true → IsSmall (argument_place n)
  place_small zero lasting = tt
  place_small (suc v) lasting = variable_small v (alias_there v lasting).1

  place_low : (n : ℕ) → is_lasting (Some m) n ≡ true → number_of (argument_place n) < 161
  place_low zero lasting = omega arith
  place_low (suc v) lasting = let small = variable_small v (alias_there v lasting).1 in omega (arith, small)

  leaves_it : (n : ℕ) → is_lasting (Some m) n ≡ true → (k : List Todo) (i : ℕ) (t : Move (List Todo)) → Comes (relation_of p b) k → slice_get ((relation_of p b).next k) i ≡ Some t → LeavesIt x t.action (argument_place n)
  leaves_it zero lasting k i t come there = this_leaves x t.action (this_stay p ac.well_formed.valid b x at k i t come there)
  leaves_it (suc v) lasting k i t come there =
      unset_leaves x t.action v (spoken_stay p ac.well_formed.valid b x m v at of (ac.well_formed.unassigned b x at) (spoken v (alias_there v lasting).1) k i t come there)

  not_owned : (n : ℕ) → is_lasting (Some m) n ≡ true → (i : ℕ) (o : Origin) (f : Fact) → slice_get (births_at_entry p b) i ≡ Some (o, f) → is_origin_at o.kind (Some n) ≡ true → is_own f.mode ≡ true → ⊥
  not_owned n lasting i o f there origin own = by n lasting ((argument_alone p m b x at of i o f there n (position_there o.kind n origin)).1 own)
    where
      by : (k : ℕ) → is_lasting (Some m) k ≡ true → is_owning_argument m k ≡ true → ⊥
      by zero lasts owning = true≢false (sym owning)
      by (suc v) lasts owning = true≢false (sym owning ∙ not_owning (suc v) (alias_there v lasts).1)

  -- a store of such an object is one of what has an obligation
  heavy_stored : (n : ℕ) → is_lasting (Some m) n ≡ true → (o : Origin) (k : List Todo) (f : Fact) → Reach p b (relation_of p b) o k f → is_origin_at o.kind (Some n) ≡ true
      → (g : FieldId) → lacks_reset p b g f ≡ false → is_heavy_store p o g ≡ true
  heavy_stored zero lasting o k f reach origin g may =
      or_right (is_heavy_class p o.class) (has_heavy_type p g)
      (has_obligation (has f.places places.This) (is_constructor p b) (resets_this p b) (has_heavy_type p g) may (this_stays p ac b x m at of o k f reach origin) (makes_nothing 0 lasting))
  heavy_stored (suc v) lasting o k f reach origin g may =
      or_left (is_heavy_class p o.class) (has_heavy_type p g) (class_heavy (suc v) (alias_there v lasting).1 o k f reach origin)

  -- the place of a fact that is born is that of its argument
  alone_there : (n : ℕ) → IsSmall (argument_place n) → (q : Place) → IsSmall q → has (set.insert set.empty (number_of (argument_place n))) q ≡ true → q ≡ argument_place n
  alone_there n low q small in' = sym (single_place-same (argument_place n) q (sym (single_place-has (argument_place n) q low small) ∙ in'))

  begins : (n : ℕ) → is_lasting (Some m) n ≡ true → (i : ℕ) × (o : Origin) × (f : Fact) × (slice_get (births_at_entry p b) i ≡ Some (o, f)) × (is_origin_at o.kind (Some n) ≡ true)
      × ((q : Place) → IsSmall q → has f.places q ≡ true → q ≡ argument_place n)
  begins zero lasting =
      let born' = this_is_born p m b x at of (instance_has_this m.kind lasting).0 in
      (born'.0, origin_of p kinds.ThisRef m.pos m.class None, fact_at places.This (this_mode m.sig m.kind) no_names true, born'.1, refl, alone_there 0 tt)
  begins (suc v) lasting =
      let alias = (alias_there v lasting).1 in
      let q = parameter_there v alias in
      let y = element_there x.vars.items v (variable_inside v alias) in
      let c = object_type p q.0.vtype (ap (λ (t : Option VType). is_empty (must_of_optional p t)) (sym (ap type_in q.1)) ∙ some_names (suc v) alias) in
      let born' = parameter_is_born p m b x at of v q.0 y.0 c.0 q.1 y.1 c.1 in (
        born'.0,
        origin_of p (kinds.Param v) y.0.pos c.0 None,
        fact_at (places.Var v) (parameter_mode m.sig (v + 1) q.0) q.0.before true,
        born'.1,
        eq-eqb (v + 1) (suc v) (sym (next_position v)),
        alone_there (suc v) (variable_small v alias),
      )

  module _ (n : ℕ) (lasting : is_lasting (Some m) n ≡ true) where
    -- the frame does not own its object, and no owning field holds it
    abbrev IsApart : Fact → Type 0
    IsApart f = (is_own f.mode ≡ true → ⊥) × ((j : ℕ) → j < 16 → has f.places (places.Field j) ≡ false)

    is_false : (y : Bool) → (y ≡ true → ⊥) → y ≡ false
    is_false true never = absurd (never refl)
    is_false false never = refl

    module _ (o : Origin) (k : List Todo) (f : Fact) (reach : Reach p b (relation_of p b) o k f) (origin : is_origin_at o.kind (Some n) ≡ true) (i : ℕ) (t : Move (List Todo))
        (there : slice_get ((relation_of p b).next k) i ≡ Some t) where
      come : Comes (relation_of p b) k
      come = comes p ac b x at o k f reach

      fits : IsSmallAction p t.action
      fits = (ac.fits b).steps i t come there

      -- the place of the argument is one after the step
      still : has (places_after p b t.action t.edge f.places) (argument_place n) ≡ true
      still = places_still (argument_place n) (place_low n lasting) p b x at t.edge f.places (place_small n lasting) t.action fits (leaves_it n lasting k i t come there) (stays_there n lasting o k f reach origin)

      module _ (apart : IsApart f) (g : Fact) (next : flow p b o t.action t.edge f ≡ Next g) where
        so : GoesOn p b o f (places_after p b t.action t.edge f.places) g
        so = goes_so p b o f (argument_place n) t.action t.edge g still next

        -- no step puts it into an owning field
        by_store : (y : FieldId) (d : ℕ) → t.action ≡ actions.PutOwn y d → (j : ℕ) → j < 16 → has (places_after p b t.action t.edge f.places) (places.Field j) ≡ true → ⊥
        by_store y d is j low in' = go (has f.places (places.Temp d)) refl
          where
            number_small : field_number p y < 16
            number_small = (subst (IsSmallAction p) is fits).1

            after_store : has (copied f.places (place_of_field p y) (places.Temp d)) (places.Field j) ≡ true
            after_store = subst (λ (a : Action). has (places_after p b a t.edge f.places) (places.Field j) ≡ true) is in'

            as' : StoresAs p b o y d f g
            as' = (subst (After (λ (h : Fact). ArePlaces h.places (places_after p b (actions.PutOwn y d) t.edge f.places) × StoresAs p b o y d f h)) (subst (λ (a : Action). flow p b o a t.edge f ≡ Next g) is next)
                (stores p b o y d t.edge f (argument_place n) (subst (λ (a : Action). has (places_after p b a t.edge f.places) (argument_place n) ≡ true) is still))).1

            stored_so : has f.places (places.Temp d) ≡ true → StoresAs p b o y d f g → ⊥
            stored_so in'' (taken may names full it) = elim it.may [
              | inl own ↦ apart.0 (ap is_own own)
              | inr alias ↦ true≢false (sym (and_parts (is_constructor p b) (is_present (alias_position p b)) alias.0).0 ∙ makes_nothing n lasting)
            ]
            stored_so in'' (left may names full it) = true≢false (sym (heavy_stored n lasting o k f reach origin y may) ∙ it.light in'' (apart.1 (field_number p y) number_small))

            go : (z : Bool) → has f.places (places.Temp d) ≡ z → ⊥
            go true in'' = stored_so in'' as'
            go false out =
                let left_there : has f.places (places.Field j) ≡ true = without_within f.places (place_of_field p y) (161 + j) (ap (λ (z : Bool). has (if z then set.insert f.places (number_of (place_of_field p y)) else set.remove f.places (number_of (place_of_field p y))) (places.Field j)) (sym out) ∙ after_store) in
                true≢false (sym left_there ∙ apart.1 j low)

        elsewhere : (j : ℕ) → j < 16 → has (places_after p b t.action t.edge f.places) (places.Field j) ≡ true → ((y : FieldId) (d : ℕ) → t.action ≡ actions.PutOwn y d → ⊥) → ⊥
        elsewhere j low in' other =
            let sets : SetsLocals t.action = sets_locals t.action (typed_step p ac.well_formed.valid.typed b x k i t at come there).0 other in
            true≢false (sym (no_other_place_joins p b t.action t.edge f.places (places.Field j) fits sets low refl in') ∙ apart.1 j low)

        by_row : (j : ℕ) → j < 16 → has (places_after p b t.action t.edge f.places) (places.Field j) ≡ true → RowOf t.action → ⊥
        by_row j low in' (store y d is) = by_store y d is j low in'
        by_row j low in' (plain row) = elsewhere j low in' (λ y d is. subst IsPlainRow is row)
        by_row j low in' (call row) = elsewhere j low in' (λ y d is. subst IsCallRow is row)
        by_row j low in' (end c ends) = elsewhere j low in' (λ y d is. (let never : actions.End c ≡ actions.PutOwn y d = sym ends ∙ is in cc))

        stays_apart : IsApart g
        stays_apart = (
          (λ own. apart.0 (so.1 own)),
          (λ j low. is_false (has g.places (places.Field j)) (λ in'. by_row j low (sym (so.0 (161 + j)) ∙ in') (row_of t.action))),
        )

    is_apart : (o : Origin) (k : List Todo) (f : Fact) → Reach p b (relation_of p b) o k f → is_origin_at o.kind (Some n) ≡ true → IsApart f
    is_apart o _ f (entered i is) origin = (
      not_owned n lasting i o f is origin,
      (λ j low.
          ap (λ (s : PlaceSet). has s (places.Field j)) (argument_alone p m b x at of i o f is n (position_there o.kind n origin)).0
          ∙ single_place-has (argument_place n) (places.Field j) (place_small n lasting) low ∙ no_field_place n j),
    )
    is_apart o _ f (born {k} i l t before there is) origin = absurd (born_by_none n o.kind (step_elsewhere p b t.action t.edge t.pos l o f is).1 origin)
    is_apart o _ g (flowed {k} {f} i t before there is) origin = stays_apart o k f before origin i t there (is_apart o k f before origin) g is

    -- it is in no owning field
    pub lasting_in_no_field : (o : Origin) (k : List Todo) (f : Fact) → Reach p b (relation_of p b) o k f → is_origin_at o.kind (Some n) ≡ true → (j : ℕ) → j < 16 → has f.places (places.Field j) ≡ false
    lasting_in_no_field o k f reach origin = (is_apart o k f reach origin).1

    -- it goes on along each step but the end, where its object is not found to be null
    pub lasting_goes_on : (o : Origin) (k : List Todo) (f : Fact) → Reach p b (relation_of p b) o k f → is_origin_at o.kind (Some n) ≡ true
        → (i : ℕ) (t : Move (List Todo)) → slice_get ((relation_of p b).next k) i ≡ Some t → ((c : Completion) → t.action ≡ actions.End c → ⊥) → IsNotNull f t.action t.edge
        → (g : Fact) × (flow p b o t.action t.edge f ≡ Next g) × ((q : Place) → IsSmall q → has g.places q ≡ true → has (places_after p b t.action t.edge f.places) q ≡ true)
    lasting_goes_on o k f reach origin i t there on safe =
        go (flow p b o t.action t.edge f) refl (goes_on p b o f (argument_place n) t.action t.edge on safe (still o k f reach origin i t there))
      where
        go : (out : Outcome) → flow p b o t.action t.edge f ≡ out → After (GoesOn p b o f (places_after p b t.action t.edge f.places)) out
            → (g : Fact) × (flow p b o t.action t.edge f ≡ Next g) × ((q : Place) → IsSmall q → has g.places q ≡ true → has (places_after p b t.action t.edge f.places) q ≡ true)
        go (Next g) next goes = (g, next, (λ q small in'. sym (goes.0 (number_of q)) ∙ in'))
        go Gone next goes = absurd goes
        go (Fault rule names) next goes = absurd (breaks_nothing p ac b o i t f reach there (subst IsFault (sym next) tt))

    -- it is born at the entry, in the place of its argument alone
    pub lasting_begins : (i : ℕ) × (o : Origin) × (f : Fact) × (slice_get (births_at_entry p b) i ≡ Some (o, f)) × (is_origin_at o.kind (Some n) ≡ true)
        × ((q : Place) → IsSmall q → has f.places q ≡ true → q ≡ argument_place n)
    lasting_begins = begins n lasting

  -- at a normal end of a method the aliased argument is the result
  pub aliased_is_result : (n : ℕ) → is_constructor_kind m.kind ≡ false → m.sig.alias ≡ Some n → (o : Origin) (k : List Todo) (f : Fact) → Reach p b (relation_of p b) o k f → is_origin_at o.kind (Some n) ≡ true
      → (i : ℕ) (t : Move (List Todo)) → slice_get ((relation_of p b).next k) i ≡ Some t → (q : Completion) → t.action ≡ actions.End q → is_throw q ≡ false
      → (d : ℕ) × (pos : Pos) × (q ≡ completions.ReturnValue d pos) × (d < 64) × (has f.places (places.Temp d) ≡ true)
  aliased_is_result n plain' alias o k f reach origin i t there q is normal = by (moved_at_return p b o (actions.End q) f) refl
    where
      fine : (e : Moved) → moved_at_return p b o (actions.End q) f ≡ e → IsFault (after_return p b o q f e) → ⊥
      fine e moved fault = breaks_nothing p ac b o i t f reach there (subst (λ (a : Action). IsFault (flow p b o a t.edge f)) (sym is) (subst (λ (u : Moved). IsFault (after_return p b o q f u)) (sym moved) fault))

      never : alias_never_returned p b o q f ≡ true
      never =
          and_from (not (is_throw q) && is_origin_at o.kind (alias_position p b) && is_heavy_class p o.class) (not (is_constructor p b && has_field f.places))
          (and_from (not (is_throw q) && is_origin_at o.kind (alias_position p b)) (is_heavy_class p o.class)
          (and_from (not (is_throw q)) (is_origin_at o.kind (alias_position p b)) (ap not normal) (ap (is_origin_at o.kind) (aliased_by ∙ alias) ∙ origin)) (class_heavy n alias o k f reach origin))
          (ap (λ (z : Bool). not (z && has_field f.places)) (made_by ∙ plain'))

      room : (d : ℕ) (pos : Pos) → q ≡ completions.ReturnValue d pos → d < 64
      room d pos ends = subst (λ (r : Completion). IsSmallTemp (completion_temp r)) ends (subst (IsSmallAction p) is ((ac.fits b).steps i t (comes p ac b x at o k f reach) there))

      returns : (r : Completion) → q ≡ r → moved_at_return p b o (actions.End r) f ≡ moves.Moves → (d : ℕ) × (pos : Pos) × (q ≡ completions.ReturnValue d pos) × (d < 64) × (has f.places (places.Temp d) ≡ true)
      returns (completions.ReturnValue d pos) ends moved = (d, pos, ends, room d pos ends, moved_there p b o d f moved)
      returns (completions.Break pos) ends moved = absurd (let none : moves.Stays ≡ moves.Moves = moved in cc)
      returns (completions.Continue pos) ends moved = absurd (let none : moves.Stays ≡ moves.Moves = moved in cc)
      returns (completions.Return pos) ends moved = absurd (let none : moves.Stays ≡ moves.Moves = moved in cc)
      returns (completions.Throw d e pos) ends moved = absurd (let none : moves.Stays ≡ moves.Moves = moved in cc)

      by : (e : Moved) → moved_at_return p b o (actions.End q) f ≡ e → (d : ℕ) × (pos : Pos) × (q ≡ completions.ReturnValue d pos) × (d < 64) × (has f.places (places.Temp d) ≡ true)
      by moves.Stays moved = absurd (fine moves.Stays moved (left_breaks p b o q f never))
      by moves.Moves moved = returns q refl moved
      by (moves.Bad rule) moved = absurd (fine (moves.Bad rule) moved tt)
