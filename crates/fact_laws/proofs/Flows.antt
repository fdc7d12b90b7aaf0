-- A fact that goes on holds in such a place only where it held there before.
use Rattle.std.proofs.Common.{◌≡◌, ℕ, ◌<◌, Bool, true, false, not, ◌&&◌, Option, Some, None, refl, subst}
use Rattle.std.specs.Prelude.{if◌then◌else◌}
use Rattle.program_model.specs.declared.kinds.BodyId.{BodyId}
use Rattle.program_model.specs.declared.kinds.FieldId.{FieldId}
use Rattle.program_model.specs.declared.program.Program.{Program}
use Rattle.java_control.specs.Owned.{field_number, place_of_field}
use Rattle.java_control.specs.PlaceNumbers.{IsSmall, number_of}
use Rattle.java_control.specs.Sources.{is_null_pointer, is_throws}
use Rattle.control_actions.specs.declared.action.Action.{Action}
use Rattle.control_actions.specs.declared.action.Action.TheVariants as actions
use Rattle.control_actions.specs.declared.action.Completion.{Completion}
use Rattle.control_actions.specs.declared.action.Edge.{Edge}
use Rattle.control_actions.specs.declared.action.Edge.TheVariants as edges
use Rattle.control_actions.specs.declared.fact.Fact.{Fact}
use Rattle.control_actions.specs.declared.fact.Mode.TheVariants as modes
use Rattle.control_actions.specs.declared.fact.Origin.{Origin}
use Rattle.control_actions.specs.declared.fact.Outcome.{Outcome}
use Rattle.control_actions.specs.declared.fact.Outcome.TheVariants.{Next, Gone, Fault}
use Rattle.control_actions.specs.declared.fact.Rule.TheVariants as rules
use Rattle.control_actions.specs.declared.place.Place.{Place}
use Rattle.control_actions.specs.declared.place.Place.TheVariants as places
use Rattle.ownership_rules.specs.MustCallSets.{beyond_type, fits_type, must_of}
use Rattle.ownership_rules.specs.Signatures.{field_type}
use Rattle.ownership_rules.specs.Facts.{Names, PlaceSet, has, is_alias, is_held, is_met, is_nowhere, leave, missing, mode_at, owes, without}
use Rattle.ownership_rules.specs.SmallActions.{IsSmallAction}
use Rattle.place_laws.specs.PlaceRows.{places_after}
use Rattle.place_laws.specs.Promises.{broken_promise}
use Rattle.place_laws.specs.OwningFieldsStores.{heavy_stored, is_heavy_store, keeps_other, lacks_reset, may_store, object_stored, stored, stored_over, with_field}
use Rattle.ownership_rules.specs.MovesAtReturns.{moved_at_return}
use Rattle.ownership_rules.specs.declared.moved.Moved.{Moved}
use Rattle.ownership_rules.specs.declared.moved.Moved.TheVariants.{Stays, Moves, Bad}
use Rattle.place_laws.specs.Calls.{called, with_called}
use Rattle.place_laws.specs.Ends.{after_return, alias_never_returned, constructor_throws, exit_rule, left_at_end, moved_away, promise_at_end}
use Rattle.place_laws.specs.Flow.{cast, flow, null_tested, placed, raised, tested, turn, turned}
use Rattle.fact_laws.proofs.Places.{Avoids, IsKept, joined, left, no_field, places_kept}

-- where the fact goes on, this holds of it
abbrev pub IfNext : (Fact → Type 0) → Outcome → Type 0
IfNext P (Next g) = P g
IfNext P Gone = Unit {0}
IfNext P (Fault rule names) = Unit {0}

-- the end of a body lets no fact go on
module _ (P : Fact → Type 0) (p : Program) (b : BodyId) (o : Origin) (f : Fact) where
  promise_none : (names : Option Names) → IfNext P (promise_at_end names)
  promise_none None = tt
  promise_none (Some names) = tt

  left_none : (c : Completion) → IfNext P (left_at_end p b o c f)
  left_none c = go (alias_never_returned p b o c f) (owes o f) (constructor_throws p b o c f)
    where
      go : (x y z : Bool) → IfNext P (if x then Fault rules.AliasKept (must_of p o.class) else (if y then Fault (exit_rule c) (missing o f)
          else (if z then Fault rules.CtorThrow (missing o f) else promise_at_end (broken_promise p b o (actions.End c) f))))
      go true y z = tt
      go false true z = tt
      go false false true = tt
      go false false false = promise_none (broken_promise p b o (actions.End c) f)

  away_none : (c : Completion) → IfNext P (moved_away p b o c f)
  away_none c = go (is_alias f.mode)
    where
      go : (x : Bool) → IfNext P (if x then promise_at_end (broken_promise p b o (actions.End c) f) else Gone)
      go true = promise_none (broken_promise p b o (actions.End c) f)
      go false = tt

  pub end_none : (c : Completion) (m : Moved) → IfNext P (after_return p b o c f m)
  end_none c Stays = left_none c
  end_none c Moves = away_none c
  end_none c (Bad rule) = tt

module _ (q : Place) (low : number_of q < 161) (p : Program) (b : BodyId) (o : Origin) (f : Fact) where
  -- the fact holds in the place only where `f` does
  abbrev Keeps : Fact → Type 0
  Keeps g = IsKept q low f.places g.places

  left_kept : (g : Fact) (held : PlaceSet) → IsKept q low f.places held → IfNext Keeps (leave o g held)
  left_kept g held kept = go (is_nowhere held) (owes o g)
    where
      go : (x y : Bool) → IfNext Keeps (if x then (if y then Fault rules.Lost (missing o g) else Gone) else Next (record g { places = held; mode = mode_at g.mode held }))
      go true true = tt
      go true false = tt
      go false y = kept

  -- ---- stores into owning fields

  heavy_kept : (g : FieldId) → IfNext Keeps (heavy_stored p b o g f)
  heavy_kept g = go (keeps_other p b o) (not (may_store p b o f)) (not (fits_type p o.class (field_type p g)))
    where
      go : (x y z : Bool) → IfNext Keeps (if x then Fault rules.AliasKept (must_of p o.class) else (if y then Fault rules.NotOwned (must_of p o.class)
          else (if z then Fault rules.Narrow (beyond_type p o.class (field_type p g)) else Next (with_field p g modes.Held f))))
      go true y z = tt
      go false true z = tt
      go false false true = tt
      go false false false = joined q low f.places (place_of_field p g) (no_field q low (field_number p g))

  object_kept : (g : FieldId) → IfNext Keeps (object_stored p b o g f)
  object_kept g = go (has f.places (place_of_field p g)) (is_heavy_store p o g)
    where
      go : (x y : Bool) → IfNext Keeps (if x then Next f else (if y then heavy_stored p b o g f else Next (with_field p g f.mode f)))
      go true y = λ is. is
      go false true = heavy_kept g
      go false false = joined q low f.places (place_of_field p g) (no_field q low (field_number p g))

  over_kept : (g : FieldId) → IfNext Keeps (stored_over p o g f)
  over_kept g = go (has f.places (place_of_field p g)) (is_held f.mode && not (is_met o f))
    where
      go : (x y : Bool) → IfNext Keeps (if x then (if y then Fault rules.Overwritten (missing o f) else leave o f (without f.places (place_of_field p g))) else Next f)
      go true true = tt
      go true false = left_kept f (without f.places (place_of_field p g)) (left q low f.places (place_of_field p g))
      go false y = λ is. is

  stored_kept : (g : FieldId) (d : ℕ) → IfNext Keeps (stored p b o g d f)
  stored_kept g d = go (lacks_reset p b g f) (has f.places (places.Temp d))
    where
      go : (x y : Bool) → IfNext Keeps (if x then Fault rules.ResetMissing (must_of p o.class) else (if y then object_stored p b o g f else stored_over p o g f))
      go true y = tt
      go false true = object_kept g
      go false false = over_kept g

  -- ---- the rows

  module _ (held : PlaceSet) (kept : IsKept q low f.places held) where
    turned_row : (x : Outcome) → IfNext Keeps (placed o f held (turned x))
    turned_row (Next g) = left_kept g held kept
    turned_row Gone = tt
    turned_row (Fault rule names) = tt

    null_row : (d : ℕ) → IfNext Keeps (placed o f held (null_tested p b d f))
    null_row d = go (not (has f.places (places.Temp d))) (is_held f.mode) refl refl
      where
        go : (x y : Bool) → not (has f.places (places.Temp d)) ≡ x → is_held f.mode ≡ y → IfNext Keeps (placed o f held (null_tested p b d f))
        go true y elsewhere mode = rw elsewhere (λ is. is)
        go false true here mode = rw (here, mode) (left_kept (with_called f _) held kept)
        go false false here mode = rw (here, mode) tt

    tested_row : (d : ℕ) (e : Edge) → IfNext Keeps (placed o f held (tested p b d e f))
    tested_row d edges.Go = left_kept f held kept
    tested_row d edges.Null = null_row d
    tested_row d edges.NonNull = left_kept f held kept
    tested_row d edges.True = left_kept f held kept
    tested_row d edges.False = left_kept f held kept
    tested_row d (edges.Throws c) = left_kept f held kept

    cast_row : (e : Edge) → IfNext Keeps (placed o f held (cast e f))
    cast_row e = go (is_throws e) refl
      where
        go : (x : Bool) → is_throws e ≡ x → IfNext Keeps (placed o f held (cast e f))
        go true throws = rw throws (left_kept f held kept)
        go false throws = rw throws (λ is. is)

    raised_row : (e : Edge) → IfNext Keeps (placed o f held (raised p e f))
    raised_row e = go (is_null_pointer p e) refl
      where
        go : (x : Bool) → is_null_pointer p e ≡ x → IfNext Keeps (placed o f held (raised p e f))
        go true null = rw null (left_kept f held kept)
        go false null = rw null (λ is. is)

    row_kept : (a : Action) (e : Edge) → IfNext Keeps (placed o f held (turn p b o a e f))
    row_kept actions.Skip e = λ is. is
    row_kept (actions.Copy x y) e = left_kept f held kept
    row_kept (actions.Move x y) e = left_kept f held kept
    row_kept (actions.Plain x value) e = left_kept f held kept
    row_kept (actions.Drop s) e = left_kept f held kept
    row_kept (actions.Settle d c) e = left_kept f held kept
    row_kept (actions.Enter clause x d from) e = left_kept f held kept
    row_kept (actions.Test d) e = tested_row d e
    row_kept (actions.Op k d n) e = left_kept f held kept
    row_kept (actions.Get g d this) e = left_kept f held kept
    row_kept (actions.Put g d this) e = left_kept f held kept
    row_kept (actions.Cast t d) e = cast_row e
    row_kept (actions.PutOwn g d) e = stored_kept g d
    row_kept (actions.Call m d n form) e = turned_row (called p b o (actions.Call m d n form) e f)
    row_kept (actions.New m d n) e = turned_row (called p b o (actions.New m d n) e f)
    row_kept (actions.Super m d n) e = turned_row (called p b o (actions.Super m d n) e f)
    row_kept (actions.Raise d c) e = raised_row e
    row_kept (actions.End c) e = end_none Keeps p b o f c (moved_at_return p b o (actions.End c) f)

  -- a step that puts nothing into the place
  pub flow_kept : (a : Action) (e : Edge) → IsSmall q → IsSmallAction p a → Avoids a q → IfNext Keeps (flow p b o a e f)
  flow_kept a e small fits avoids = row_kept (places_after p b a e f.places) (places_kept q low p b e f.places small a fits avoids) a e

  pub next_kept : (a : Action) (e : Edge) (g : Fact) → IsSmall q → IsSmallAction p a → Avoids a q → flow p b o a e f ≡ Next g → has g.places q ≡ true → has f.places q ≡ true
  next_kept a e g small fits avoids next = subst (IfNext Keeps) next (flow_kept a e small fits avoids)
