-- A fact that says that a field of `this` holds its object has a place of `this`: it is in `this`, a field of it or its super class's part.
use Rattle.std.proofs.Common.{◌≡◌, refl, sym, subst, ap, ◌∙◌, ℕ, zero, suc, ◌+◌, ◌<◌, ◌≤◌, arith, Bool, true, false, not, ◌&&◌, ◌||◌, true≢false, nat_eq, eqb-true, Option, Some, None, List, [], ◌∷◌, ◌++◌, slice_get}
use Rattle.std.specs.Prelude.{if◌then◌else◌}
use Rattle.std.specs.List.{cons_option, filter_map}
use Rattle.std.proofs.lemmas.Bool.{or_left, or_right}
use Rattle.std.proofs.lemmas.Bool.Decides.{nat_tests}
use Rattle.std.specs.FinSet as set
use Rattle.rlc_base.proofs.SetLaws.{new_member}
use Rattle.rlc_base.specs.declared.place.Pos.{Pos}
use Rattle.program_model.specs.declared.kinds.BodyId.{BodyId}
use Rattle.program_model.specs.declared.kinds.FieldId.{FieldId}
use Rattle.program_model.specs.declared.kinds.MethodKind.{MethodKind}
use Rattle.program_model.specs.declared.kinds.MethodKind.TheVariants as methods
use Rattle.program_model.specs.declared.program.Field.{Field}
use Rattle.program_model.specs.declared.program.Method.{Method}
use Rattle.program_model.specs.declared.program.ParamSig.{ParamSig}
use Rattle.program_model.specs.declared.program.Program.{Program}
use Rattle.program_model.specs.declared.tree.Body.{Body}
use Rattle.program_model.specs.declared.tree.Var.{Var}
use Rattle.program_model.specs.Lookups.{body_at, field_at, method_at, optional, variable_at}
use Rattle.java_control.specs.Calls.{is_reset_of_this}
use Rattle.java_control.specs.Owned.{field_number, place_of_field}
use Rattle.java_control.specs.Sources.{is_null_pointer, is_throws}
use Rattle.java_control.specs.PlaceNumbers.{number_of}
use Rattle.java_control.specs.Remaining.{Todo}
use Rattle.control_actions.specs.declared.action.Action.{Action}
use Rattle.control_actions.specs.declared.action.Action.TheVariants as actions
use Rattle.control_actions.specs.declared.action.Edge.{Edge}
use Rattle.control_actions.specs.declared.action.Edge.TheVariants as edges
use Rattle.control_actions.specs.declared.fact.Fact.{Fact}
use Rattle.control_actions.specs.declared.fact.Mode.{Mode}
use Rattle.control_actions.specs.declared.fact.Mode.TheVariants as modes
use Rattle.control_actions.specs.declared.fact.Origin.{Origin}
use Rattle.control_actions.specs.declared.fact.Rule.TheVariants as rules
use Rattle.control_actions.specs.declared.fact.OriginKind.TheVariants as kinds
use Rattle.control_actions.specs.declared.fact.Outcome.{Outcome}
use Rattle.control_actions.specs.declared.fact.Outcome.TheVariants.{Next, Gone, Fault}
use Rattle.control_actions.specs.declared.place.Place.TheVariants as places
use Rattle.ownership_rules.specs.Bodies.{fields_of, has_field_place}
use Rattle.ownership_rules.specs.Births.{Birth, birth_on, births_at_entry, births_of_step, entry_births_in, entry_births_of, fact_at, field_birth, field_birth_place, field_births, has_this, held_births, origin_of, owning_field_birth, parameter_birth, parameter_births, parameter_mode, reset_births, this_birth, this_mode}
use Rattle.ownership_rules.specs.Facts.{PlaceSet, has, has_field, has_field_from, has_part, is_held, is_met, is_nowhere, leave, missing, mode_at, owes, with_place, without}
use Rattle.ownership_rules.specs.MovesAtReturns.{moved_at_return}
use Rattle.ownership_rules.specs.MustCallSets.{beyond_type, fits_type, must_of, no_names}
use Rattle.ownership_rules.specs.Signatures.{field_type, is_position}
use Rattle.place_laws.specs.Accept.{Accept}
use Rattle.place_laws.specs.Calls.{called, with_called}
use Rattle.place_laws.specs.Flow.{cast, flow, null_tested, placed, raised, tested, turn, turned}
use Rattle.place_laws.specs.OwningFieldsStores.{heavy_stored, is_heavy_store, keeps_other, lacks_reset, may_store, object_stored, stored, stored_over, with_field}
use Rattle.place_laws.specs.Paths.{Comes, Move, Reach, born, entered, flowed, relation_of}
use Rattle.place_laws.specs.PlaceRows.{places_after}
use Rattle.fact_laws.specs.Going.{is_in_this}
use Rattle.fact_laws.proofs.EntryFacts.{born_so}
use Rattle.fact_laws.proofs.Flows.{IfNext, end_none}
use Rattle.fact_laws.proofs.Going.{held_within}
use Rattle.fact_laws.proofs.KeptFacts.{parameter_unheld}
use Rattle.fact_laws.proofs.Origins.{comes}
use Rattle.fact_laws.proofs.ParameterBirths.{AllBirths, OnBirth, birth_at, births_both, listed}
use Rattle.fact_laws.proofs.ResetBirths.{HasPlainMode, on_born}

-- ---- places of fields

among_fields : (held : PlaceSet) (k from n : ℕ) → from ≤ k → k < from + n → has held (places.Field k) ≡ true → has_field_from held from n ≡ true
unfolding has_field_from
among_fields held k from zero low high is = absurd (omega (arith, low, high))
among_fields held k from (suc n) low high is = go (nat_eq from k) refl (among_fields held k (from + 1) n)
  where
    go : (b : Bool) → nat_eq from k ≡ b → (from + 1 ≤ k → k < from + 1 + n → has held (places.Field k) ≡ true → has_field_from held (from + 1) n ≡ true)
        → (has held (places.Field from) || has_field_from held (from + 1) n) ≡ true
    go true e further = or_left (has held (places.Field from)) (has_field_from held (from + 1) n) (ap (λ (j : ℕ). has held (places.Field j)) (eqb-true from k e) ∙ is)
    go false e further = or_right (has held (places.Field from)) (has_field_from held (from + 1) n) (further (below e) (omega (arith, high)) is)
      where
        below : nat_eq from k ≡ false → from + 1 ≤ k
        below apart = first_of (omega (arith, low), grind (arith, nat_tests, low, apart))

field_in_this : (held : PlaceSet) (k : ℕ) → k < 16 → has held (places.Field k) ≡ true → is_in_this held ≡ true
field_in_this held k small is = or_right (has held places.This) (has_part held) (or_left (has_field held) (has held places.Super) (among_fields held k 0 16 (omega arith) small is))

-- ---- steps

held_mode : (m : Mode) → is_held m ≡ true → m ≡ modes.Held
held_mode modes.Held is = refl
held_mode modes.Own is = absurd (true≢false (sym is))
held_mode modes.None is = absurd (true≢false (sym is))
held_mode modes.Lent is = absurd (true≢false (sym is))
held_mode modes.Alias is = absurd (true≢false (sym is))

-- such a fact has a place of `this`
abbrev IsInside : Fact → Type 0
IsInside f = is_held f.mode ≡ true → is_in_this f.places ≡ true

module _ (p : Program) (ac : Accept p) (b : BodyId) (o : Origin) (f : Fact) (inside : IsInside f) where
  at_places : (g : Fact) (held : PlaceSet) → IfNext IsInside (leave o g held)
  at_places g held = go (is_nowhere held) (owes o g)
    where
      go : (x y : Bool) → IfNext IsInside (if x then (if y then Fault rules.Lost (missing o g) else Gone) else Next (record g { places = held; mode = mode_at g.mode held }))
      go true true = tt
      go true false = tt
      go false y = λ is. held_within g.mode held (held_mode (mode_at g.mode held) is)

  -- ---- stores into owning fields

  module _ (g : FieldId) (place : has_field_place p b g ≡ true) where
    -- the field's place is one of `this`
    in_place : (mode : Mode) → IsInside (with_field p g mode f)
    in_place mode held = field_in_this (with_place f.places (place_of_field p g)) (field_number p g) ((ac.fits b).room.fields g place) (new_member f.places (number_of (place_of_field p g)))

    heavy_inside : IfNext IsInside (heavy_stored p b o g f)
    heavy_inside = go (keeps_other p b o) (may_store p b o f) (not (fits_type p o.class (field_type p g)))
      where
        go : (x y z : Bool) → IfNext IsInside (if x then Fault rules.AliasKept (must_of p o.class) else (if not y then Fault rules.NotOwned (must_of p o.class)
            else (if z then Fault rules.Narrow (beyond_type p o.class (field_type p g)) else Next (with_field p g modes.Held f))))
        go true y z = tt
        go false false z = tt
        go false true true = tt
        go false true false = in_place modes.Held

    object_inside : IfNext IsInside (object_stored p b o g f)
    object_inside = go (has f.places (place_of_field p g)) (is_heavy_store p o g)
      where
        go : (x y : Bool) → IfNext IsInside (if x then Next f else (if y then heavy_stored p b o g f else Next (with_field p g f.mode f)))
        go true y = inside
        go false true = heavy_inside
        go false false = in_place f.mode

    over_inside : IfNext IsInside (stored_over p o g f)
    over_inside = go (has f.places (place_of_field p g)) (is_held f.mode && not (is_met o f))
      where
        go : (x y : Bool) → IfNext IsInside (if x then (if y then Fault rules.Overwritten (missing o f) else leave o f (without f.places (place_of_field p g))) else Next f)
        go true true = tt
        go true false = at_places f (without f.places (place_of_field p g))
        go false y = inside

    stored_inside : (d : ℕ) → IfNext IsInside (stored p b o g d f)
    stored_inside d = go (lacks_reset p b g f) (has f.places (places.Temp d))
      where
        go : (x y : Bool) → IfNext IsInside (if x then Fault rules.ResetMissing (must_of p o.class) else (if y then object_stored p b o g f else stored_over p o g f))
        go true y = tt
        go false true = object_inside
        go false false = over_inside

  -- ---- the rows

  module _ (held : PlaceSet) where
    turned_inside : (x : Outcome) → IfNext IsInside (placed o f held (turned x))
    turned_inside (Next g) = at_places g held
    turned_inside Gone = tt
    turned_inside (Fault rule names) = tt

    null_inside : (d : ℕ) → IfNext IsInside (placed o f held (null_tested p b d f))
    null_inside d = go (not (has f.places (places.Temp d))) (is_held f.mode) refl refl
      where
        go : (x y : Bool) → not (has f.places (places.Temp d)) ≡ x → is_held f.mode ≡ y → IfNext IsInside (placed o f held (null_tested p b d f))
        go true y elsewhere mode = rw elsewhere inside
        go false true there mode = rw (there, mode) (at_places (with_called f _) held)
        go false false there mode = rw (there, mode) tt

    tested_inside : (d : ℕ) (e : Edge) → IfNext IsInside (placed o f held (tested p b d e f))
    tested_inside d edges.Go = at_places f held
    tested_inside d edges.Null = null_inside d
    tested_inside d edges.NonNull = at_places f held
    tested_inside d edges.True = at_places f held
    tested_inside d edges.False = at_places f held
    tested_inside d (edges.Throws c) = at_places f held

    cast_inside : (e : Edge) → IfNext IsInside (placed o f held (cast e f))
    cast_inside e = go (is_throws e) refl
      where
        go : (x : Bool) → is_throws e ≡ x → IfNext IsInside (placed o f held (cast e f))
        go true throws = rw throws (at_places f held)
        go false throws = rw throws inside

    raised_inside : (e : Edge) → IfNext IsInside (placed o f held (raised p e f))
    raised_inside e = go (is_null_pointer p e) refl
      where
        go : (x : Bool) → is_null_pointer p e ≡ x → IfNext IsInside (placed o f held (raised p e f))
        go true null = rw null (at_places f held)
        go false null = rw null inside

    row_inside : (a : Action) (e : Edge) → ((g : FieldId) (d : ℕ) → a ≡ actions.PutOwn g d → has_field_place p b g ≡ true) → IfNext IsInside (placed o f held (turn p b o a e f))
    row_inside actions.Skip e own = inside
    row_inside (actions.Copy x y) e own = at_places f held
    row_inside (actions.Move x y) e own = at_places f held
    row_inside (actions.Plain x value) e own = at_places f held
    row_inside (actions.Drop s) e own = at_places f held
    row_inside (actions.Settle d c) e own = at_places f held
    row_inside (actions.Enter clause x d from) e own = at_places f held
    row_inside (actions.Test d) e own = tested_inside d e
    row_inside (actions.Op k d n) e own = at_places f held
    row_inside (actions.Get g d this) e own = at_places f held
    row_inside (actions.Put g d this) e own = at_places f held
    row_inside (actions.Cast t d) e own = cast_inside e
    row_inside (actions.PutOwn g d) e own = stored_inside g (own g d refl) d
    row_inside (actions.Call m d n form) e own = turned_inside (called p b o (actions.Call m d n form) e f)
    row_inside (actions.New m d n) e own = turned_inside (called p b o (actions.New m d n) e f)
    row_inside (actions.Super m d n) e own = turned_inside (called p b o (actions.Super m d n) e f)
    row_inside (actions.Raise d c) e own = raised_inside e
    row_inside (actions.End c) e own = end_none IsInside p b o f c (moved_at_return p b o (actions.End c) f)

  next_inside : (a : Action) (e : Edge) (g : Fact) → ((n : FieldId) (d : ℕ) → a ≡ actions.PutOwn n d → has_field_place p b n ≡ true) → flow p b o a e f ≡ Next g → IsInside g
  next_inside a e g own next = subst (IfNext IsInside) next (row_inside (places_after p b a e f.places) a e own)

-- ---- births

abbrev IsBornInside : Birth → Type 0
IsBornInside birth = IsInside birth.1

module _ (p : Program) (ac : Accept p) (b : BodyId) where
  field_inside : (pos : Option Pos) (g : FieldId) → OnBirth IsBornInside (field_birth p b pos g)
  field_inside pos g = go (has_field_place p b g) refl (field_at p g)
    where
      go : (y : Bool) → has_field_place p b g ≡ y → (x : Option Field) → OnBirth IsBornInside (if y then owning_field_birth p g pos x else None)
      go false is x = tt
      go true is None = tt
      go true is (Some x) = born_so IsBornInside p (kinds.FieldAt g) (field_birth_place pos x) (Some x.vtype) None (fact_at (place_of_field p g) modes.Held no_names true)
          (λ c class held. field_in_this (fact_at (place_of_field p g) modes.Held no_names true).places (field_number p g) ((ac.fits b).room.fields g is) (new_member set.empty (number_of (place_of_field p g))))

  fields_inside : (pos : Option Pos) (gs : List FieldId) → AllBirths IsBornInside (filter_map (field_birth p b pos) gs)
  fields_inside pos [] = tt
  fields_inside pos (g ∷ gs) = go (field_birth p b pos g) (field_inside pos g) (fields_inside pos gs)
    where
      go : (x : Option Birth) → OnBirth IsBornInside x → AllBirths IsBornInside (filter_map (field_birth p b pos) gs) → AllBirths IsBornInside (cons_option x (filter_map (field_birth p b pos) gs))
      go None on rest = rest
      go (Some x) on rest = (on, rest)

  reset_inside : (a : Action) (pos : Pos) → AllBirths IsBornInside (reset_births p b a pos)
  reset_inside a pos = go (is_reset_of_this p a)
    where
      go : (y : Bool) → AllBirths IsBornInside (if y then field_births p b (Some pos) else [])
      go true = fields_inside (Some pos) (fields_of p b)
      go false = tt

  module _ (x : Body) (m : Method) (at : body_at p b ≡ Some x) (of : method_at p x.method ≡ Some m) where
    step_inside : (a : Action) (e : Edge) (pos : Pos) (n : ℕ) (o : Origin) (f : Fact) → slice_get (births_of_step p b a e pos) n ≡ Some (o, f) → IsInside f
    step_inside a e pos n o f there =
        birth_at IsBornInside (births_of_step p b a e pos) n (o, f)
        (births_both IsBornInside (optional (birth_on p a e pos)) (reset_births p b a pos) (listed IsBornInside (birth_on p a e pos) (unheld (birth_on p a e pos) (on_born p b m (Unit {0}) a e pos))) (reset_inside a pos)) there
      where
        unheld : (y : Option Birth) → OnBirth (HasPlainMode p b m (Unit {0})) y → OnBirth IsBornInside y
        unheld None on = tt
        unheld (Some y) on = λ held. absurd (true≢false (sym held ∙ on.1 tt))

    parameter_inside : (k : ℕ) (q : ParamSig) → OnBirth IsBornInside (parameter_birth p m.sig k q (variable_at x k))
    parameter_inside k q = go (variable_at x k)
      where
        go : (v : Option Var) → OnBirth IsBornInside (parameter_birth p m.sig k q v)
        go None = tt
        go (Some v) = born_so IsBornInside p (kinds.Param k) v.pos (Some q.vtype) None (fact_at (places.Var k) (parameter_mode m.sig (k + 1) q) q.before true)
            (λ c class held. absurd (true≢false (sym held ∙ parameter_unheld m.sig (k + 1) q)))

    parameters_inside : (k : ℕ) (qs : List ParamSig) → AllBirths IsBornInside (parameter_births p x m.sig k qs)
    parameters_inside k [] = tt
    parameters_inside k (q ∷ qs) =
        births_both IsBornInside (optional (parameter_birth p m.sig k q (variable_at x k))) (parameter_births p x m.sig (k + 1) qs)
        (listed IsBornInside (parameter_birth p m.sig k q (variable_at x k)) (parameter_inside k q)) (parameters_inside (k + 1) qs)

    method_unheld : (lent alias : Bool) → is_held (if lent then modes.Lent else (if alias then modes.Alias else modes.None)) ≡ false
    method_unheld true alias = refl
    method_unheld false true = refl
    method_unheld false false = refl

    this_unheld : (kind : MethodKind) → is_held (this_mode m.sig kind) ≡ false
    this_unheld methods.Ctor = refl
    this_unheld methods.Instance = method_unheld (is_position m.sig.reset 0) (is_position m.sig.alias 0)
    this_unheld methods.Static = method_unheld (is_position m.sig.reset 0) (is_position m.sig.alias 0)
    this_unheld methods.Constant = method_unheld (is_position m.sig.reset 0) (is_position m.sig.alias 0)

    this_inside : OnBirth IsBornInside (this_birth p m)
    this_inside = go (has_this m.kind)
      where
        go : (y : Bool) → OnBirth IsBornInside (if y then Some (origin_of p kinds.ThisRef m.pos m.class None, fact_at places.This (this_mode m.sig m.kind) no_names true) else None)
        go true = λ held. absurd (true≢false (sym held ∙ this_unheld m.kind))
        go false = tt

    held_inside : (kind : MethodKind) → AllBirths IsBornInside (held_births p b kind)
    held_inside methods.Ctor = tt
    held_inside methods.Instance = fields_inside None (fields_of p b)
    held_inside methods.Static = tt
    held_inside methods.Constant = tt

    entry_inside : (n : ℕ) (o : Origin) (f : Fact) → slice_get (births_at_entry p b) n ≡ Some (o, f) → IsInside f
    entry_inside n o f there = birth_at IsBornInside (births_at_entry p b) n (o, f) all there
      where
        all : AllBirths IsBornInside (births_at_entry p b)
        all = subst (λ (y : Option Body). AllBirths IsBornInside (entry_births_in p b y)) (sym at) (subst (λ (y : Option Method). AllBirths IsBornInside (entry_births_of p b x y)) (sym of)
            (births_both IsBornInside (parameter_births p x m.sig 0 m.sig.params.items) (optional (this_birth p m) ++ held_births p b m.kind) (parameters_inside 0 m.sig.params.items)
            (births_both IsBornInside (optional (this_birth p m)) (held_births p b m.kind) (listed IsBornInside (this_birth p m) this_inside) (held_inside m.kind))))

    -- ---- paths

    -- a fact in mode Held has a place of `this`, where the owning fields that the body stores have places in it
    pub held_in_this : ((k : List Todo) (i : ℕ) (t : Move (List Todo)) (g : FieldId) (d : ℕ) → Comes (relation_of p b) k → slice_get ((relation_of p b).next k) i ≡ Some t → t.action ≡ actions.PutOwn g d → has_field_place p b g ≡ true)
        → (o : Origin) (k : List Todo) (f : Fact) → Reach p b (relation_of p b) o k f → is_held f.mode ≡ true → is_in_this f.places ≡ true
    held_in_this stores o _ f (entered n is) = entry_inside n o f is
    held_in_this stores o _ f (born i n t before here is) = step_inside t.action t.edge t.pos n o f is
    held_in_this stores o _ g (flowed {k = k} {f = f} i t before here is) =
        next_inside p ac b o f (held_in_this stores o k f before) t.action t.edge g (λ n d same. stores k i t n d (comes p ac b x at o k f before) here same) is
