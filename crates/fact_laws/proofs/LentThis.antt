-- What is lent stays so on each path; so the fact of `this` is in mode Lent in a constructor, and in a method that creates the obligation of `this` anew.
use Rattle.std.proofs.Common.{◌≡◌, ℕ, ◌+◌, Bool, true, false, not, ◌&&◌, ◌||◌, true≢false, Option, Some, None, List, [], ◌∷◌, ◌++◌, slice_get, refl, sym, subst, ap, ◌∙◌}
use Rattle.std.specs.Prelude.{if◌then◌else◌}
use Rattle.program_model.specs.declared.kinds.BodyId.{BodyId}
use Rattle.program_model.specs.declared.kinds.FieldId.{FieldId}
use Rattle.program_model.specs.declared.kinds.MethodKind.{MethodKind}
use Rattle.program_model.specs.declared.kinds.MethodKind.TheVariants as methods
use Rattle.program_model.specs.declared.kinds.VType.{VType}
use Rattle.program_model.specs.declared.program.Method.{Method}
use Rattle.program_model.specs.declared.program.ParamSig.{ParamSig}
use Rattle.program_model.specs.declared.program.Program.{Program}
use Rattle.program_model.specs.declared.tree.Body.{Body}
use Rattle.program_model.specs.declared.tree.Var.{Var}
use Rattle.program_model.specs.Lookups.{body_at, method_at, optional, variable_at}
use Rattle.java_control.specs.Owned.{place_of_field}
use Rattle.java_control.specs.Sources.{is_null_pointer, is_throws}
use Rattle.java_control.specs.Remaining.{Todo}
use Rattle.control_actions.specs.declared.action.Action.{Action}
use Rattle.control_actions.specs.declared.action.Action.TheVariants as actions
use Rattle.control_actions.specs.declared.action.Edge.{Edge}
use Rattle.control_actions.specs.declared.action.Edge.TheVariants as edges
use Rattle.control_actions.specs.declared.fact.Fact.{Fact}
use Rattle.control_actions.specs.declared.fact.Mode.{Mode}
use Rattle.control_actions.specs.declared.fact.Mode.TheVariants as modes
use Rattle.control_actions.specs.declared.fact.Origin.{Origin}
use Rattle.control_actions.specs.declared.fact.OriginKind.TheVariants as kinds
use Rattle.control_actions.specs.declared.fact.Outcome.{Outcome}
use Rattle.control_actions.specs.declared.fact.Outcome.TheVariants.{Next, Gone, Fault}
use Rattle.control_actions.specs.declared.fact.Rule.TheVariants as rules
use Rattle.control_actions.specs.declared.place.Place.TheVariants as places
use Rattle.ownership_rules.specs.Bodies.{fields_of, is_alias_constructor, is_constructor_kind}
use Rattle.ownership_rules.specs.Callees.{may_be_null_target}
use Rattle.ownership_rules.specs.Births.{Birth, births_at_entry, entry_births_in, entry_births_of, fact_at, has_this, held_births, origin_of, parameter_birth, parameter_births, parameter_mode, this_birth, this_mode}
use Rattle.ownership_rules.specs.Facts.{Names, PlaceSet, has, is_alias, is_held, is_lent, is_met, is_nowhere, is_own, leave, missing, mode_at, owes, position_of, without}
use Rattle.ownership_rules.specs.Heavy.{is_owned}
use Rattle.ownership_rules.specs.MovesAtCalls.{first_of, has_two_owners, moved_at_call, moved_to_first, owners}
use Rattle.ownership_rules.specs.MovesAtReturns.{moved_at_return}
use Rattle.ownership_rules.specs.MustCallSets.{beyond_type, fits_type, is_heavy_as, is_heavy_class, must_of, no_names}
use Rattle.ownership_rules.specs.Signatures.{field_type, is_position}
use Rattle.ownership_rules.specs.declared.moved.Moved.{Moved}
use Rattle.ownership_rules.specs.declared.moved.Moved.TheVariants.{Stays, Moves, Bad}
use Rattle.place_laws.specs.CalledRows.{called_after}
use Rattle.place_laws.specs.Calls.{after_reset, at_move, at_precondition, called, with_called}
use Rattle.place_laws.specs.Flow.{cast, flow, null_tested, placed, raised, tested, turn, turned}
use Rattle.place_laws.specs.OwningFieldsStores.{heavy_stored, is_heavy_store, keeps_other, lacks_reset, may_store, object_stored, stored, stored_over, with_field}
use Rattle.place_laws.specs.Paths.{Reach, born, entered, flowed, relation_of}
use Rattle.place_laws.specs.PlaceRows.{places_after}
use Rattle.place_laws.specs.Preconditions.{precondition_missing}
use Rattle.must_call_reset.specs.Resets.{reset_of}
use Rattle.must_call_reset.specs.declared.reset_move.ResetMove.{ResetMove}
use Rattle.must_call_reset.specs.declared.reset_move.ResetMove.TheVariants as resets
use Rattle.fact_laws.proofs.EntryFacts.{IsElsewhere, born_so, fields_elsewhere, kind_is, step_elsewhere}
use Rattle.fact_laws.proofs.Flows.{IfNext, end_none}
use Rattle.fact_laws.proofs.ParameterBirths.{AllBirths, OnBirth, birth_at, births_both, listed}

-- ---- what is lent is not the frame's to give

lent_unowned : (m : Mode) → is_lent m ≡ true → is_own m ≡ false
lent_unowned modes.Own is = absurd (true≢false (sym is))
lent_unowned modes.None is = refl
lent_unowned modes.Held is = refl
lent_unowned modes.Lent is = refl
lent_unowned modes.Alias is = refl

lent_stays_at : (m : Mode) (held : PlaceSet) → is_lent m ≡ true → is_lent (mode_at m held) ≡ true
lent_stays_at modes.Own held is = absurd (true≢false (sym is))
lent_stays_at modes.None held is = absurd (true≢false (sym is))
lent_stays_at modes.Held held is = absurd (true≢false (sym is))
lent_stays_at modes.Lent held is = refl
lent_stays_at modes.Alias held is = absurd (true≢false (sym is))

not_both : (x y : Bool) → y ≡ false → (x && y) ≡ false
not_both true y none = none
not_both false y none = refl

lent_moves_not : (p : Program) (o : Origin) (a : Action) (e : Edge) (f : Fact) → is_lent f.mode ≡ true → moved_at_call p o a e f ≡ Moves → ⊥
lent_moves_not p o a e f lent is = go (has_two_owners p o.class a f.places) is
  where
    to : (t : VType) (x : Bool) → (if not x then Stays else (if not (is_owned p o f) then Bad rules.NotOwned
        else (if not (fits_type p o.class (Some t)) then Bad rules.Narrow else (if may_be_null_target p a e && not (is_met o f) then Bad rules.Throw else Moves)))) ≡ Moves → ⊥
    to t false same = cc
    to t true same =
        let other : is_owned p o f ≡ false = not_both (is_heavy_class p o.class) (is_own f.mode) (lent_unowned f.mode lent) in
        let bad : Bad rules.NotOwned ≡ Moves = rw other at same in
        cc

    first : (t : Option VType) → moved_to_first p o a e f t ≡ Moves → ⊥
    first None same = cc
    first (Some t) same = to t (is_heavy_as p o.class (Some t)) same

    go : (x : Bool) → (if x then Bad rules.Twice else moved_to_first p o a e f (first_of (owners p a f.places))) ≡ Moves → ⊥
    go true same = cc
    go false same = first (first_of (owners p a f.places)) same

-- ---- steps

module _ (p : Program) (b : BodyId) (o : Origin) (f : Fact) (lent : is_lent f.mode ≡ true) where
  abbrev IsLent : Fact → Type 0
  IsLent g = is_lent g.mode ≡ true

  at_places : (g : Fact) (held : PlaceSet) → IsLent g → IfNext IsLent (leave o g held)
  at_places g held mode = go (is_nowhere held) (owes o g)
    where
      go : (x y : Bool) → IfNext IsLent (if x then (if y then Fault rules.Lost (missing o g) else Gone) else Next (record g { places = held; mode = mode_at g.mode held }))
      go true true = tt
      go true false = tt
      go false y = lent_stays_at g.mode held mode

  -- ---- calls

  reset_lent : (g : Fact) → IsLent g → (r : ResetMove) → IfNext IsLent (after_reset p o g r)
  reset_lent g mode resets.Untouched = mode
  reset_lent g mode resets.Emptied = mode
  reset_lent g mode (resets.Bad rule) = tt

  moved_lent : (a : Action) (e : Edge) (m : Moved) → moved_at_call p o a e f ≡ m → IfNext IsLent (at_move p b o a e f m)
  moved_lent a e Stays is = reset_lent (with_called f (called_after p b a e f)) lent (reset_of p b o a (with_called f (called_after p b a e f)))
  moved_lent a e Moves is = absurd (lent_moves_not p o a e f lent is)
  moved_lent a e (Bad rule) is = tt

  called_lent : (a : Action) (e : Edge) → IfNext IsLent (called p b o a e f)
  called_lent a e = go (precondition_missing p a f)
    where
      go : (x : Option Names) → IfNext IsLent (at_precondition p b o a e f x)
      go None = moved_lent a e (moved_at_call p o a e f) refl
      go (Some names) = tt

  -- ---- stores into owning fields

  heavy_lent : (g : FieldId) → IfNext IsLent (heavy_stored p b o g f)
  heavy_lent g = go (keeps_other p b o) (may_store p b o f) refl (not (fits_type p o.class (field_type p g)))
    where
      none : (m : Mode) (c d : Bool) → is_lent m ≡ true → (c && (is_own m || d && is_alias m)) ≡ true → ⊥
      none modes.Own c d is may = true≢false (sym is)
      none modes.None c d is may = true≢false (sym is)
      none modes.Held c d is may = true≢false (sym is)
      none modes.Lent true true is may = true≢false (sym may)
      none modes.Lent true false is may = true≢false (sym may)
      none modes.Lent false d is may = true≢false (sym may)
      none modes.Alias c d is may = true≢false (sym is)

      go : (x y : Bool) → may_store p b o f ≡ y → (z : Bool) → IfNext IsLent (if x then Fault rules.AliasKept (must_of p o.class) else (if not y then Fault rules.NotOwned (must_of p o.class)
          else (if z then Fault rules.Narrow (beyond_type p o.class (field_type p g)) else Next (with_field p g modes.Held f))))
      go true y is z = tt
      go false false is z = tt
      go false true is true = tt
      go false true is false = absurd (none f.mode (is_heavy_class p o.class) (is_alias_constructor p b) lent is)

  object_lent : (g : FieldId) → IfNext IsLent (object_stored p b o g f)
  object_lent g = go (has f.places (place_of_field p g)) (is_heavy_store p o g)
    where
      go : (x y : Bool) → IfNext IsLent (if x then Next f else (if y then heavy_stored p b o g f else Next (with_field p g f.mode f)))
      go true y = lent
      go false true = heavy_lent g
      go false false = lent

  over_lent : (g : FieldId) → IfNext IsLent (stored_over p o g f)
  over_lent g = go (has f.places (place_of_field p g)) (is_held f.mode && not (is_met o f))
    where
      go : (x y : Bool) → IfNext IsLent (if x then (if y then Fault rules.Overwritten (missing o f) else leave o f (without f.places (place_of_field p g))) else Next f)
      go true true = tt
      go true false = at_places f (without f.places (place_of_field p g)) lent
      go false y = lent

  stored_lent : (g : FieldId) (d : ℕ) → IfNext IsLent (stored p b o g d f)
  stored_lent g d = go (lacks_reset p b g f) (has f.places (places.Temp d))
    where
      go : (x y : Bool) → IfNext IsLent (if x then Fault rules.ResetMissing (must_of p o.class) else (if y then object_stored p b o g f else stored_over p o g f))
      go true y = tt
      go false true = object_lent g
      go false false = over_lent g

  -- ---- the rows

  module _ (held : PlaceSet) where
    here : IfNext IsLent (leave o f held)
    here = at_places f held lent

    turned_lent : (x : Outcome) → IfNext IsLent x → IfNext IsLent (placed o f held (turned x))
    turned_lent (Next g) mode = at_places g held mode
    turned_lent Gone mode = tt
    turned_lent (Fault rule names) mode = tt

    null_lent : (d : ℕ) → IfNext IsLent (placed o f held (null_tested p b d f))
    null_lent d = go (not (has f.places (places.Temp d))) (is_held f.mode) refl refl
      where
        go : (x y : Bool) → not (has f.places (places.Temp d)) ≡ x → is_held f.mode ≡ y → IfNext IsLent (placed o f held (null_tested p b d f))
        go true y elsewhere mode = rw elsewhere lent
        go false true there mode = rw (there, mode) (at_places (with_called f _) held lent)
        go false false there mode = rw (there, mode) tt

    tested_lent : (d : ℕ) (e : Edge) → IfNext IsLent (placed o f held (tested p b d e f))
    tested_lent d edges.Go = here
    tested_lent d edges.Null = null_lent d
    tested_lent d edges.NonNull = here
    tested_lent d edges.True = here
    tested_lent d edges.False = here
    tested_lent d (edges.Throws c) = here

    cast_lent : (e : Edge) → IfNext IsLent (placed o f held (cast e f))
    cast_lent e = go (is_throws e) refl
      where
        go : (x : Bool) → is_throws e ≡ x → IfNext IsLent (placed o f held (cast e f))
        go true throws = rw throws here
        go false throws = rw throws lent

    raised_lent : (e : Edge) → IfNext IsLent (placed o f held (raised p e f))
    raised_lent e = go (is_null_pointer p e) refl
      where
        go : (x : Bool) → is_null_pointer p e ≡ x → IfNext IsLent (placed o f held (raised p e f))
        go true null = rw null here
        go false null = rw null lent

    row_lent : (a : Action) (e : Edge) → IfNext IsLent (placed o f held (turn p b o a e f))
    row_lent actions.Skip e = lent
    row_lent (actions.Copy x y) e = here
    row_lent (actions.Move x y) e = here
    row_lent (actions.Plain x value) e = here
    row_lent (actions.Drop s) e = here
    row_lent (actions.Settle d c) e = here
    row_lent (actions.Enter clause x d from) e = here
    row_lent (actions.Test d) e = tested_lent d e
    row_lent (actions.Op k d n) e = here
    row_lent (actions.Get g d this) e = here
    row_lent (actions.Put g d this) e = here
    row_lent (actions.Cast t d) e = cast_lent e
    row_lent (actions.PutOwn g d) e = stored_lent g d
    row_lent (actions.Call m d n form) e = turned_lent (called p b o (actions.Call m d n form) e f) (called_lent (actions.Call m d n form) e)
    row_lent (actions.New m d n) e = turned_lent (called p b o (actions.New m d n) e f) (called_lent (actions.New m d n) e)
    row_lent (actions.Super m d n) e = turned_lent (called p b o (actions.Super m d n) e f) (called_lent (actions.Super m d n) e)
    row_lent (actions.Raise d c) e = raised_lent e
    row_lent (actions.End c) e = end_none IsLent p b o f c (moved_at_return p b o (actions.End c) f)

  pub next_lent : (a : Action) (e : Edge) (g : Fact) → flow p b o a e f ≡ Next g → is_lent g.mode ≡ true
  next_lent a e g next = subst (IfNext IsLent) next (row_lent (places_after p b a e f.places) a e)

-- ---- the fact of `this`

module _ (p : Program) (b : BodyId) (x : Body) (m : Method) (at : body_at p b ≡ Some x) (of : method_at p x.method ≡ Some m) (says : (is_constructor_kind m.kind || is_position m.sig.reset 0) ≡ true) where
  -- what is born as `this` is lent
  abbrev IsLentAsThis : Birth → Type 0
  IsLentAsThis birth = (birth.0).kind ≡ kinds.ThisRef → is_lent (birth.1).mode ≡ true

  parameter_other : (k : ℕ) (q : ParamSig) → OnBirth IsLentAsThis (parameter_birth p m.sig k q (variable_at x k))
  parameter_other k q = go (variable_at x k)
    where
      go : (v : Option Var) → OnBirth IsLentAsThis (parameter_birth p m.sig k q v)
      go None = tt
      go (Some v) = born_so IsLentAsThis p (kinds.Param k) v.pos (Some q.vtype) None (fact_at (places.Var k) (parameter_mode m.sig (k + 1) q) q.before true)
          (λ c class this. absurd (let never : kinds.Param k ≡ kinds.ThisRef = sym (kind_is p (kinds.Param k) v.pos c None) ∙ this in cc))

  parameters_other : (k : ℕ) (qs : List ParamSig) → AllBirths IsLentAsThis (parameter_births p x m.sig k qs)
  parameters_other k [] = tt
  parameters_other k (q ∷ qs) =
      births_both IsLentAsThis (optional (parameter_birth p m.sig k q (variable_at x k))) (parameter_births p x m.sig (k + 1) qs)
      (listed IsLentAsThis (parameter_birth p m.sig k q (variable_at x k)) (parameter_other k q)) (parameters_other (k + 1) qs)

  method_lent : (kind : MethodKind) → m.kind ≡ kind → has_this kind ≡ true → is_lent (this_mode m.sig kind) ≡ true
  method_lent methods.Ctor is has' = refl
  method_lent methods.Instance is has' = rw (sym (ap (λ (k : MethodKind). is_constructor_kind k || is_position m.sig.reset 0) is) ∙ says) refl
  method_lent methods.Static is has' = absurd (true≢false (sym has'))
  method_lent methods.Constant is has' = absurd (true≢false (sym has'))

  this_is_lent : OnBirth IsLentAsThis (this_birth p m)
  this_is_lent = go (has_this m.kind) refl
    where
      go : (y : Bool) → has_this m.kind ≡ y → OnBirth IsLentAsThis (if y then Some (origin_of p kinds.ThisRef m.pos m.class None, fact_at places.This (this_mode m.sig m.kind) no_names true) else None)
      go true has' = λ this. method_lent m.kind refl has'
      go false none = tt

  -- what is born elsewhere is of no position
  all_other : (xs : List Birth) → AllBirths IsElsewhere xs → AllBirths IsLentAsThis xs
  all_other [] all = tt
  all_other (y ∷ xs) all = ((λ this. absurd (let never : Some 0 ≡ None = sym (ap position_of this) ∙ (all.0).1 in cc)), all_other xs all.1)

  held_other : (kind : MethodKind) → AllBirths IsLentAsThis (held_births p b kind)
  held_other methods.Ctor = tt
  held_other methods.Instance = all_other (held_births p b methods.Instance) (fields_elsewhere p b None (fields_of p b))
  held_other methods.Static = tt
  held_other methods.Constant = tt

  entry_lent : (n : ℕ) (o : Origin) (f : Fact) → slice_get (births_at_entry p b) n ≡ Some (o, f) → o.kind ≡ kinds.ThisRef → is_lent f.mode ≡ true
  entry_lent n o f there = birth_at IsLentAsThis (births_at_entry p b) n (o, f) all there
    where
      all : AllBirths IsLentAsThis (births_at_entry p b)
      all = subst (λ (y : Option Body). AllBirths IsLentAsThis (entry_births_in p b y)) (sym at) (subst (λ (y : Option Method). AllBirths IsLentAsThis (entry_births_of p b x y)) (sym of)
          (births_both IsLentAsThis (parameter_births p x m.sig 0 m.sig.params.items) (optional (this_birth p m) ++ held_births p b m.kind) (parameters_other 0 m.sig.params.items)
          (births_both IsLentAsThis (optional (this_birth p m)) (held_births p b m.kind) (listed IsLentAsThis (this_birth p m) this_is_lent) (held_other m.kind))))

  -- the fact of `this` is in mode Lent, where the body is a constructor's, or its method creates the obligation of `this` anew
  pub this_is_lent_on_paths : (o : Origin) (k : List Todo) (f : Fact) → Reach p b (relation_of p b) o k f → o.kind ≡ kinds.ThisRef → is_lent f.mode ≡ true
  this_is_lent_on_paths o _ f (entered n is) this = entry_lent n o f is this
  this_is_lent_on_paths o _ f (born i n t before here is) this = absurd (let never : Some 0 ≡ None = sym (ap position_of this) ∙ (step_elsewhere p b t.action t.edge t.pos n o f is).1 in cc)
  this_is_lent_on_paths o _ g (flowed {k} {f} i t before here is) this = next_lent p b o f (this_is_lent_on_paths o k f before this) t.action t.edge g is
