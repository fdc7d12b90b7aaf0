-- A fact is in mode Own only where it was so before, and that of a parameter that is not owning never is.
use Rattle.std.proofs.Common.{◌≡◌, ◌∙◌, ap, refl, sym, subst, arith, ℕ, zero, suc, ◌+◌, Bool, true, false, not, ◌&&◌, ◌||◌, true≢false, Option, Some, None, List, [], ◌∷◌, ◌++◌, slice_get}
use Rattle.std.specs.Prelude.{if◌then◌else◌}
use Rattle.program_model.specs.declared.kinds.BodyId.{BodyId}
use Rattle.program_model.specs.declared.kinds.FieldId.{FieldId}
use Rattle.program_model.specs.declared.kinds.MethodKind.{MethodKind}
use Rattle.program_model.specs.declared.kinds.MethodKind.TheVariants as methods
use Rattle.program_model.specs.declared.kinds.VType.TheVariants as types
use Rattle.program_model.specs.declared.program.Method.{Method}
use Rattle.program_model.specs.declared.program.ParamSig.{ParamSig}
use Rattle.program_model.specs.declared.program.Program.{Program}
use Rattle.program_model.specs.declared.program.Sig.{Sig}
use Rattle.program_model.specs.declared.tree.Body.{Body}
use Rattle.program_model.specs.declared.tree.Var.{Var}
use Rattle.program_model.specs.Lookups.{body_at, method_at, optional, variable_at}
use Rattle.ledger_obligations.specs.Bodies.{fields_of}
use Rattle.ledger_obligations.specs.MustCallSets.{beyond_type, fits_type, must_of, no_names}
use Rattle.ownership_rules.specs.Signatures.{field_type, is_position}
use Rattle.must_call_reset.specs.Resets.{reset_of}
use Rattle.must_call_reset.specs.declared.reset_move.ResetMove.{ResetMove}
use Rattle.must_call_reset.specs.declared.reset_move.ResetMove.TheVariants as resets
use Rattle.java_control.specs.Owned.{place_of_field}
use Rattle.java_control.specs.Remaining.{Todo}
use Rattle.java_control.specs.Sources.{is_null_pointer, is_throws}
use Rattle.control_actions.specs.declared.action.Action.{Action}
use Rattle.control_actions.specs.declared.action.Action.TheVariants as actions
use Rattle.control_actions.specs.declared.action.Edge.{Edge}
use Rattle.control_actions.specs.declared.action.Edge.TheVariants as edges
use Rattle.control_actions.specs.declared.fact.Fact.{Fact}
use Rattle.control_actions.specs.declared.fact.Mode.{Mode}
use Rattle.control_actions.specs.declared.fact.Mode.TheVariants as modes
use Rattle.control_actions.specs.declared.fact.Origin.{Origin}
use Rattle.control_actions.specs.declared.fact.OriginKind.TheVariants as kinds
use Rattle.control_actions.specs.declared.fact.Outcome.{Outcome}
use Rattle.control_actions.specs.declared.fact.Outcome.TheVariants.{Next, Gone, Fault}
use Rattle.control_actions.specs.declared.fact.Rule.TheVariants as rules
use Rattle.control_actions.specs.declared.place.Place.TheVariants as places
use Rattle.ownership_rules.specs.Facts.{Names, PlaceSet, has, has_part, is_held, is_met, is_nowhere, is_own, leave, missing, mode_at, owes, position_of, without}
use Rattle.content_laws.specs.PlaceRows.{places_after}
use Rattle.content_laws.specs.CalledRows.{called_after}
use Rattle.content_laws.specs.Preconditions.{precondition_missing}
use Rattle.content_laws.specs.OwningFieldsStores.{heavy_stored, is_heavy_store, keeps_other, lacks_reset, may_store, object_stored, stored, stored_over, with_field}
use Rattle.ownership_rules.specs.Births.{Birth, births_at_entry, entry_births_in, entry_births_of, fact_at, has_this, held_births, parameter_birth, parameter_births, parameter_mode, this_birth, this_mode}
use Rattle.ownership_rules.specs.Births as births
use Rattle.ownership_rules.specs.MovesAtCalls.{moved_at_call}
use Rattle.ownership_rules.specs.MovesAtReturns.{moved_at_return}
use Rattle.ownership_rules.specs.declared.moved.Moved.{Moved}
use Rattle.ownership_rules.specs.declared.moved.Moved.TheVariants.{Stays, Moves, Bad}
use Rattle.content_laws.specs.Calls.{after_move, after_reset, at_move, at_precondition, called, given_away, with_called}
use Rattle.content_laws.specs.Flow.{cast, flow, null_tested, placed, raised, tested, turn, turned}
use Rattle.content_laws.specs.Paths.{Reach, born, entered, flowed, relation_of}
use Rattle.content_laws.proofs.ParameterBirths.{AllBirths, OnBirth, birth_at, births_both, listed}
use Rattle.content_laws.proofs.EntryFacts.{IsElsewhere, born_so, fields_elsewhere, step_elsewhere}
use Rattle.content_laws.proofs.Flows.{IfNext, end_none}

own_left : (m : Mode) (held : PlaceSet) → is_own (mode_at m held) ≡ true → is_own m ≡ true
own_left modes.Own held is = is
own_left modes.None held is = is
own_left modes.Held held is = go (has held places.This || has_part held) is
  where
    go : (b : Bool) → is_own (if b then modes.Held else modes.None) ≡ true → false ≡ true
    go true one = one
    go false one = one
own_left modes.Lent held is = is
own_left modes.Alias held is = is

-- ---- one step

module _ (p : Program) (b : BodyId) (o : Origin) (f : Fact) where
  abbrev OwnSo : Fact → Type 0
  OwnSo g = is_own g.mode ≡ true → is_own f.mode ≡ true

  itself : OwnSo f
  itself is = is

  at_places : (g : Fact) (held : PlaceSet) → OwnSo g → IfNext OwnSo (leave o g held)
  at_places g held mode = go (is_nowhere held) (owes o g)
    where
      go : (x y : Bool) → IfNext OwnSo (if x then (if y then Fault rules.Lost (missing o g) else Gone) else Next (record g { places = held; mode = mode_at g.mode held }))
      go true true = tt
      go true false = tt
      go false y = λ is. mode (own_left g.mode held is)

  -- ---- calls

  reset_own : (g : Fact) → OwnSo g → (r : ResetMove) → IfNext OwnSo (after_reset p o g r)
  reset_own g mode resets.Untouched = mode
  reset_own g mode resets.Emptied = mode
  reset_own g mode (resets.Bad rule) = tt

  move_own : (a : Action) (e : Edge) (g : Fact) → OwnSo g → IfNext OwnSo (after_move p b o a e g)
  move_own a e g mode = reset_own (with_called g (called_after p b a e g)) mode (reset_of p b o a (with_called g (called_after p b a e g)))

  moved_own : (a : Action) (e : Edge) (m : Moved) → IfNext OwnSo (at_move p b o a e f m)
  moved_own a e Stays = move_own a e f itself
  moved_own a e Moves = move_own a e (given_away f) (λ is. absurd (true≢false (sym is)))
  moved_own a e (Bad rule) = tt

  called_own : (a : Action) (e : Edge) → IfNext OwnSo (called p b o a e f)
  called_own a e = go (precondition_missing p a f)
    where
      go : (x : Option Names) → IfNext OwnSo (at_precondition p b o a e f x)
      go None = moved_own a e (moved_at_call p o a e f)
      go (Some names) = tt

  -- ---- stores into owning fields

  heavy_own : (g : FieldId) → IfNext OwnSo (heavy_stored p b o g f)
  heavy_own g = go (keeps_other p b o) (not (may_store p b o f)) (not (fits_type p o.class (field_type p g)))
    where
      go : (x y z : Bool) → IfNext OwnSo (if x then Fault rules.AliasKept (must_of p o.class) else (if y then Fault rules.NotOwned (must_of p o.class)
          else (if z then Fault rules.Narrow (beyond_type p o.class (field_type p g)) else Next (with_field p g modes.Held f))))
      go true y z = tt
      go false true z = tt
      go false false true = tt
      go false false false = λ is. absurd (true≢false (sym is))

  object_own : (g : FieldId) → IfNext OwnSo (object_stored p b o g f)
  object_own g = go (has f.places (place_of_field p g)) (is_heavy_store p o g)
    where
      go : (x y : Bool) → IfNext OwnSo (if x then Next f else (if y then heavy_stored p b o g f else Next (with_field p g f.mode f)))
      go true y = itself
      go false true = heavy_own g
      go false false = λ is. is

  over_own : (g : FieldId) → IfNext OwnSo (stored_over p o g f)
  over_own g = go (has f.places (place_of_field p g)) (is_held f.mode && not (is_met o f))
    where
      go : (x y : Bool) → IfNext OwnSo (if x then (if y then Fault rules.Overwritten (missing o f) else leave o f (without f.places (place_of_field p g))) else Next f)
      go true true = tt
      go true false = at_places f (without f.places (place_of_field p g)) itself
      go false y = itself

  stored_own : (g : FieldId) (d : ℕ) → IfNext OwnSo (stored p b o g d f)
  stored_own g d = go (lacks_reset p b g f) (has f.places (places.Temp d))
    where
      go : (x y : Bool) → IfNext OwnSo (if x then Fault rules.ResetMissing (must_of p o.class) else (if y then object_stored p b o g f else stored_over p o g f))
      go true y = tt
      go false true = object_own g
      go false false = over_own g

  -- ---- the rows

  module _ (held : PlaceSet) where
    here : IfNext OwnSo (leave o f held)
    here = at_places f held itself

    turned_own : (x : Outcome) → IfNext OwnSo x → IfNext OwnSo (placed o f held (turned x))
    turned_own (Next g) mode = at_places g held mode
    turned_own Gone mode = tt
    turned_own (Fault rule names) mode = tt

    null_own : (d : ℕ) → IfNext OwnSo (placed o f held (null_tested p b d f))
    null_own d = go (not (has f.places (places.Temp d))) (is_held f.mode) refl refl
      where
        go : (x y : Bool) → not (has f.places (places.Temp d)) ≡ x → is_held f.mode ≡ y → IfNext OwnSo (placed o f held (null_tested p b d f))
        go true y elsewhere mode = rw elsewhere itself
        go false true there mode = rw (there, mode) (at_places (with_called f _) held itself)
        go false false there mode = rw (there, mode) tt

    tested_own : (d : ℕ) (e : Edge) → IfNext OwnSo (placed o f held (tested p b d e f))
    tested_own d edges.Go = here
    tested_own d edges.Null = null_own d
    tested_own d edges.NonNull = here
    tested_own d edges.True = here
    tested_own d edges.False = here
    tested_own d (edges.Throws c) = here

    cast_own : (e : Edge) → IfNext OwnSo (placed o f held (cast e f))
    cast_own e = go (is_throws e) refl
      where
        go : (x : Bool) → is_throws e ≡ x → IfNext OwnSo (placed o f held (cast e f))
        go true throws = rw throws here
        go false throws = rw throws itself

    raised_own : (e : Edge) → IfNext OwnSo (placed o f held (raised p e f))
    raised_own e = go (is_null_pointer p e) refl
      where
        go : (x : Bool) → is_null_pointer p e ≡ x → IfNext OwnSo (placed o f held (raised p e f))
        go true null = rw null here
        go false null = rw null itself

    row_own : (a : Action) (e : Edge) → IfNext OwnSo (placed o f held (turn p b o a e f))
    row_own actions.Skip e = itself
    row_own (actions.Copy x y) e = here
    row_own (actions.Move x y) e = here
    row_own (actions.Plain x value) e = here
    row_own (actions.Drop s) e = here
    row_own (actions.Settle d c) e = here
    row_own (actions.Enter clause x d from) e = here
    row_own (actions.Test d) e = tested_own d e
    row_own (actions.Op k d n) e = here
    row_own (actions.Get g d this) e = here
    row_own (actions.Put g d this) e = here
    row_own (actions.Cast t d) e = cast_own e
    row_own (actions.PutOwn g d) e = stored_own g d
    row_own (actions.Call m d n form) e = turned_own (called p b o (actions.Call m d n form) e f) (called_own (actions.Call m d n form) e)
    row_own (actions.New m d n) e = turned_own (called p b o (actions.New m d n) e f) (called_own (actions.New m d n) e)
    row_own (actions.Super m d n) e = turned_own (called p b o (actions.Super m d n) e f) (called_own (actions.Super m d n) e)
    row_own (actions.Raise d c) e = raised_own e
    row_own (actions.End c) e = end_none OwnSo p b o f c (moved_at_return p b o (actions.End c) f)

  next_own : (a : Action) (e : Edge) (g : Fact) → flow p b o a e f ≡ Next g → OwnSo g
  next_own a e g next = subst (IfNext OwnSo) next (row_own (places_after p b a e f.places) a e)

unowned_next : (m n : Mode) → (is_own n ≡ true → is_own m ≡ true) → is_own m ≡ false → is_own n ≡ false
unowned_next m n back none = go (is_own n) refl
  where
    go : (y : Bool) → is_own n ≡ y → is_own n ≡ false
    go true own = absurd (true≢false (sym (back own) ∙ none))
    go false own = own

-- ---- the entry

unowned : (s : Sig) (j : ℕ) (q : ParamSig) → q.owning ≡ false → is_own (parameter_mode s j q) ≡ false
unowned s j q none = by q.owning (is_position s.alias j) (is_position s.reset j) none
  where
    by : (x y z : Bool) → x ≡ false → is_own (if x then modes.Own else (if y then modes.Alias else (if z then modes.Lent else modes.None))) ≡ false
    by true y z free = absurd (true≢false free)
    by false true z free = refl
    by false false true free = refl
    by false false false free = refl

module _ (p : Program) (m : Method) (v : ℕ) where
  -- a fact of the parameter is not in mode Own
  abbrev IsBegun : Birth → Type 0
  IsBegun x = (x.0).kind ≡ kinds.Param v → is_own (x.1).mode ≡ false

  parameter_begun : (b : Body) (k : ℕ) (x : ParamSig) → (k ≡ v → x.owning ≡ false) → OnBirth IsBegun (parameter_birth p m.sig k x (variable_at b k))
  parameter_begun b k x plain = go (variable_at b k)
    where
      go : (w : Option Var) → OnBirth IsBegun (parameter_birth p m.sig k x w)
      go None = tt
      go (Some w) = born_so IsBegun p (kinds.Param k) w.pos (Some x.vtype) None (fact_at (places.Var k) (parameter_mode m.sig (k + 1) x) x.before true)
          (λ c class same. unowned m.sig (k + 1) x (plain (let is : kinds.Param k ≡ kinds.Param v = same in (let one : k ≡ v = cc in one))))

  parameters_begun : (b : Body) (k : ℕ) (xs : List ParamSig) → ((j : ℕ) (x : ParamSig) → k + j ≡ v → slice_get xs j ≡ Some x → x.owning ≡ false) → AllBirths IsBegun (parameter_births p b m.sig k xs)
  parameters_begun b k [] plain = tt
  parameters_begun b k (x ∷ xs) plain =
      births_both IsBegun (optional (parameter_birth p m.sig k x (variable_at b k))) (parameter_births p b m.sig (k + 1) xs)
      (listed IsBegun (parameter_birth p m.sig k x (variable_at b k)) (parameter_begun b k x (λ same. plain zero x (omega (arith, same)) refl)))
      (parameters_begun b (k + 1) xs (λ j y same there. plain (suc j) y (omega (arith, same)) there))

  this_begun : OnBirth IsBegun (this_birth p m)
  this_begun = go (has_this m.kind)
    where
      go : (y : Bool) → OnBirth IsBegun (if y then births.born p kinds.ThisRef m.pos (Some (types.Obj m.class)) None (fact_at places.This (this_mode m.sig m.kind) no_names true) else None)
      go true = λ same. absurd (let is : kinds.ThisRef ≡ kinds.Param v = same in cc)
      go false = tt

  all_begun : (xs : List Birth) → AllBirths IsElsewhere xs → AllBirths IsBegun xs
  all_begun [] all = tt
  all_begun (x ∷ xs) all = ((λ same. absurd (let never : Some (v + 1) ≡ None = sym (ap position_of same) ∙ (all.0).1 in cc)), all_begun xs all.1)

  held_begun : (b : BodyId) (k : MethodKind) → AllBirths IsBegun (held_births p b k)
  held_begun b methods.Ctor = tt
  held_begun b methods.Instance = all_begun (held_births p b methods.Instance) (fields_elsewhere p b None (fields_of p b))
  held_begun b methods.Static = tt
  held_begun b methods.Constant = tt

  module _ (plain : (x : ParamSig) → slice_get m.sig.params.items v ≡ Some x → x.owning ≡ false) (b : BodyId) (x : Body) (at : body_at p b ≡ Some x) (named : method_at p x.method ≡ Some m) where
    entry_begun : (n : ℕ) (o : Origin) (f : Fact) → slice_get (births_at_entry p b) n ≡ Some (o, f) → o.kind ≡ kinds.Param v → is_own f.mode ≡ false
    entry_begun n o f there = birth_at IsBegun (births_at_entry p b) n (o, f) all there
      where
        all : AllBirths IsBegun (births_at_entry p b)
        all = subst (λ (y : Option Body). AllBirths IsBegun (entry_births_in p b y)) (sym at) (subst (λ (y : Option Method). AllBirths IsBegun (entry_births_of p b x y)) (sym named)
            (births_both IsBegun (parameter_births p x m.sig 0 m.sig.params.items) (optional (this_birth p m) ++ held_births p b m.kind)
            (parameters_begun x 0 m.sig.params.items (λ j y same there'. plain y (ap (slice_get m.sig.params.items) (let one : v ≡ j = omega (arith, same) in one) ∙ there')))
            (births_both IsBegun (optional (this_birth p m)) (held_births p b m.kind) (listed IsBegun (this_birth p m) this_begun) (held_begun b m.kind))))

    -- ---- paths

    pub never_own : (o : Origin) (c : List Todo) (f : Fact) → Reach p b (relation_of p b) o c f → o.kind ≡ kinds.Param v → is_own f.mode ≡ false
    never_own o _ f (entered n is) kind = entry_begun n o f is kind
    never_own o _ f (born i n t before here' is) kind =
        absurd (let never : Some (v + 1) ≡ None = sym (ap position_of kind) ∙ (step_elsewhere p b t.action t.edge t.pos n o f is).1 in cc)
    never_own o _ g (flowed {k = c} {f = f} i t before here' is) kind = unowned_next f.mode g.mode (next_own p b o f t.action t.edge g is) (never_own o c f before kind)
